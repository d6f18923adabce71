-- Bytes that go out or come in piece by piece: each piece continues the front that went before it.
use Rattle.std.proofs.Common.{◌≡◌, ◌∙◌, ℕ, ◌+◌, ◌-◌, ◌≤◌, List, ◌++◌, length, take, drop, Option, sym, ap}
use Rattle.std.proofs.lemmas.List.{take-append-drop, drop-append-le, take_rest, length-take-le}
use Rattle.std.proofs.Math.Seq.{take-add}
use Rattle.std.specs.Io.KnownBytes.{Appends, Keeps}
use Rattle.std.proofs.KnownBytes.{Appends-trans, Appends-kept}
use Rattle.tc_io.specs.Sink.{IsFront, AppendsFront}

-- the first n bytes are a front
pub IsFront-take : (n : ℕ) (bytes : List ℕ) → IsFront (take n bytes) bytes
IsFront-take n bytes = (drop n bytes, sym (take-append-drop n bytes))

-- what was pushed before a failure is a front
pub front_before_failure : (old mid new : Option (List ℕ)) (at : ℕ) (bytes : List ℕ)
    → Appends old mid (take at bytes) → Keeps mid new → AppendsFront old new bytes
front_before_failure old mid new at bytes before kept =
    let front : IsFront (take at bytes) bytes = IsFront-take at bytes in
    (take at bytes, front, Appends-kept old mid new (take at bytes) before kept)

-- n bytes more of those from `at` on
pub more_pushed : (old mid new : Option (List ℕ)) (at n : ℕ) (bytes : List ℕ)
    → Appends old mid (take at bytes) → Appends mid new (take n (take (length bytes - at) (drop at bytes)))
    → Appends old new (take (at + n) bytes)
more_pushed old mid new at n bytes before piece =
    rw (take-add at n bytes, ← take_rest bytes at)
    (Appends-trans old mid new (take at bytes) (take n (take (length bytes - at) (drop at bytes))) before piece)

-- a buffer's part behind what was read into the front of its first m bytes
pub drop-take-drop : (k m : ℕ) (buf : List ℕ) → k ≤ m → m ≤ length buf → drop k (take m buf) ++ drop m buf ≡ drop k buf
drop-take-drop k m buf inside fits =
    let within : k ≤ length (take m buf) = rw (length-take-le m buf fits) inside in
    sym (drop-append-le k (take m buf) (drop m buf) within) ∙ ap (drop k) (take-append-drop m buf)
