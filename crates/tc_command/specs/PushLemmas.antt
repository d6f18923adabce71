-- Pieces that were pushed one after another were pushed as one text, and a front of a later one leaves a front of it.
use Rattle.std.proofs.Common.{◌≡◌, ℕ, List, ◌++◌, sym, ◌∙◌, ap, append_assoc}
use Rattle.std.specs.declared.option.Option.{Option}
use Rattle.std.specs.Io.KnownBytes.{Appends}
use Rattle.std.proofs.KnownBytes.{Appends-trans}
use Rattle.tc_io.specs.Sink.{AppendsFront}

-- a front of the first line
pub front_of_more : (a b : Option (List ℕ)) (first more : List ℕ) → AppendsFront a b first
    → AppendsFront a b (first ++ more)
front_of_more a b first more f =
    let e : first ++ more ≡ f.0 ++ (f.1.0 ++ more) =
    ap (λ (l : List ℕ). l ++ more) f.1.1 ∙ append_assoc f.0 f.1.0 more in
    (f.0, (f.1.0 ++ more, e), f.2)

-- what came first, and a front of the next piece of the rest
pub front_of_piece : (a b c : Option (List ℕ)) (whole first rest piece more : List ℕ) → whole ≡ first ++ rest
    → rest ≡ piece ++ more
    → Appends a b first → AppendsFront b c piece → AppendsFront a c whole
front_of_piece a b c whole first rest piece more all next pushed f =
    let e : whole ≡ (first ++ f.0) ++ (f.1.0 ++ more) =
    all ∙ ap (λ (l : List ℕ). first ++ l) (next ∙ ap (λ (l : List ℕ). l ++ more) f.1.1 ∙ append_assoc f.0 f.1.0 more)
    ∙ sym (append_assoc first f.0 (f.1.0 ++ more)) in
    (first ++ f.0, (f.1.0 ++ more, e), Appends-trans a b c first f.0 pushed f.2)

-- what came first, and the next piece of the rest
pub piece_pushed : (whole first rest piece more : List ℕ) → whole ≡ first ++ rest → rest ≡ piece ++ more
    → whole ≡ (first ++ piece) ++ more
piece_pushed whole first rest piece more all next =
    all ∙ ap (λ (l : List ℕ). first ++ l) next ∙ sym (append_assoc first piece more)
