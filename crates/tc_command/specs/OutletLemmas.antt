-- An outlet is given bytes, and then more, as it is given all of them. No promise speaks of it.
use Rattle.std.proofs.Common.{◌≡◌, ℕ, Bool, true, false, List, [], ◌++◌, refl, sym, ◌∙◌, ap, subst, append_assoc}
use Rattle.std.proofs.Common.{append-nil}
use Rattle.std.specs.declared.option.Option.{Option}
use Rattle.std.specs.Io.KnownBytes.{Appends}
use Rattle.std.proofs.KnownBytes.{Appends-nil, Appends-trans}
use Rattle.tc_io.specs.Sink.{AppendsFront}
use Rattle.std.specs.Prelude.{OnOk, OnErr, Ok, Err}
use Rattle.std.specs.Result.{is_err}
use Rattle.std.specs.declared.result.Result.{Result}
use Rattle.tc_io.specs.Source.{HasCause, Rose}
use Rattle.tc_io.specs.declared.failed.Failed.{Failed}
use Rattle.tc_command.specs.Outlet.{IsGiven, IsPassedOn}

-- no bytes
pub nothing_given : (old : Option (List ℕ)) (faults : ℕ) (gathered : List ℕ) (failed : Bool)
    → IsGiven old old faults faults gathered gathered failed failed []
nothing_given old faults gathered false = (refl, ([], Appends-nil old, append-nil gathered))
nothing_given old faults gathered true = (refl, refl)

-- what was passed on, and then more
passed_more : (a b c : Option (List ℕ)) (first mid last bytes more : List ℕ) → IsPassedOn a b first mid bytes
    → IsPassedOn b c mid last more → IsPassedOn a c first last (bytes ++ more)
passed_more a b c first mid last bytes more p q = (
  p.0 ++ q.0,
  Appends-trans a b c p.0 q.0 p.1 q.1,
  sym (append_assoc first bytes more) ∙ ap (λ (l : List ℕ). l ++ more) p.2 ∙ append_assoc p.0 mid more
      ∙ ap (λ (l : List ℕ). p.0 ++ l) q.2 ∙ sym (append_assoc p.0 q.0 last),
)

-- what was passed on, and then a front of the rest
passed_front : (a b c : Option (List ℕ)) (first mid bytes more : List ℕ) → IsPassedOn a b first mid bytes
    → AppendsFront b c (mid ++ more) → AppendsFront a c (first ++ (bytes ++ more))
passed_front a b c first mid bytes more p f = (
  p.0 ++ f.0,
  (
    f.1.0,
    sym (append_assoc first bytes more) ∙ ap (λ (l : List ℕ). l ++ more) p.2 ∙ append_assoc p.0 mid more
        ∙ ap (λ (l : List ℕ). p.0 ++ l) f.1.1 ∙ sym (append_assoc p.0 f.0 f.1.0),
  ),
  Appends-trans a b c p.0 f.0 p.1 f.2,
)

-- a front of the first bytes is one of all
front_more : (a b : Option (List ℕ)) (first bytes more : List ℕ) → AppendsFront a b (first ++ bytes)
    → AppendsFront a b (first ++ (bytes ++ more))
front_more a b first bytes more f = (
  f.0,
  (
    f.1.0 ++ more,
    sym (append_assoc first bytes more) ∙ ap (λ (l : List ℕ). l ++ more) f.1.1 ∙ append_assoc f.0 f.1.0 more,
  ),
  f.2,
)

-- bytes, and then more
pub more_given : (a b c : Option (List ℕ)) (i j k : ℕ) (first mid last : List ℕ) (was is will : Bool)
    (bytes more : List ℕ)
    → IsGiven a b i j first mid was is bytes → IsGiven b c j k mid last is will more
    → IsGiven a c i k first last was will (bytes ++ more)
more_given a b c i j k first mid last false false false bytes more p q =
    (q.0 ∙ p.0, passed_more a b c first mid last bytes more p.1 q.1)
more_given a b c i j k first mid last false false true bytes more p q =
    (subst (λ (n : ℕ). Rose n k) p.0 q.0, passed_front a b c first mid bytes more p.1 q.1)
more_given a b c i j k first mid last false true true bytes more p q = (
  subst (λ (n : ℕ). Rose i n) (sym q.0) p.0,
  subst (λ (o : Option (List ℕ)). AppendsFront a o (first ++ (bytes ++ more))) (sym q.1)
      (front_more a b first bytes more p.1),
)
more_given a b c i j k first mid last true true true bytes more p q = (q.0 ∙ p.0, q.1 ∙ p.1)
more_given a b c i j k first mid last false true false bytes more p q = absurd q
more_given a b c i j k first mid last true false will bytes more p q = absurd p
more_given a b c i j k first mid last true true false bytes more p q = absurd q

-- bytes that are pushed where nothing is gathered
pub pushed : (old new : Option (List ℕ)) (faults now : ℕ) (gathered bytes : List ℕ) (result : Result (Unit {0}) Failed)
    → gathered ≡ [] → OnOk result (Appends old new bytes) → OnErr result (AppendsFront old new bytes)
    → HasCause faults now result → IsGiven old new faults now gathered gathered false (is_err result) bytes
pushed old new faults now gathered bytes (Ok done) empty all front cause =
    (cause.same, (bytes, all, rw empty (sym (append-nil bytes))))
pushed old new faults now gathered bytes (Err e) empty all front cause = (cause.failed, rw empty front)

-- what is gathered, pushed
pub gathered_pushed : (old new : Option (List ℕ)) (faults now : ℕ) (gathered : List ℕ)
    (result : Result (Unit {0}) Failed) → OnOk result (Appends old new gathered)
    → OnErr result (AppendsFront old new gathered) → HasCause faults now result
    → IsGiven old new faults now gathered [] false (is_err result) []
gathered_pushed old new faults now gathered (Ok done) all front cause = (cause.same, (gathered, all, refl))
gathered_pushed old new faults now gathered (Err e) all front cause =
    (cause.failed, rw (append-nil gathered) front)

-- bytes that are gathered behind what was passed on
pub gathered_more : (old new : Option (List ℕ)) (faults now : ℕ) (first mid last : List ℕ) (was is : Bool)
    (bytes : List ℕ) → IsGiven old new faults now first mid was is [] → last ≡ mid ++ bytes
    → IsGiven old new faults now first last was is bytes
gathered_more old new faults now first mid last was false bytes given same =
    more_given old new new faults now now first mid last was false false [] bytes given
    (refl, ([], Appends-nil new, sym same))
gathered_more old new faults now first mid last was true bytes given same =
    more_given old new new faults now now first mid last was true true [] bytes given (refl, refl)

-- from an outlet where nothing was gathered to one where nothing is, and no push failed: all bytes were pushed
pub all_pushed : (old new : Option (List ℕ)) (faults now : ℕ) (first last : List ℕ) (was is : Bool) (bytes : List ℕ)
    → first ≡ [] → was ≡ false → last ≡ [] → is ≡ false → IsGiven old new faults now first last was is bytes
    → (now ≡ faults) × Appends old new bytes
all_pushed old new faults now first last was is bytes none fresh left going given =
    let p = rw (none, fresh, left, going) at given in
    (p.0, subst (λ (l : List ℕ). Appends old new l) (sym (p.1.2 ∙ append-nil p.1.0)) p.1.1)

-- and where a push failed, a front of them
pub cut_off : (old new : Option (List ℕ)) (faults now : ℕ) (first last : List ℕ) (was is : Bool) (bytes : List ℕ)
    → first ≡ [] → was ≡ false → is ≡ true → IsGiven old new faults now first last was is bytes
    → Rose faults now × AppendsFront old new bytes
cut_off old new faults now first last was is bytes none fresh failed given = rw (none, fresh, failed) at given

-- what is gathered still, and was pushed then
pub flushed : (a b c : Option (List ℕ)) (i j k : ℕ) (first mid last : List ℕ) (was is will : Bool) (bytes : List ℕ)
    → IsGiven a b i j first mid was is bytes → IsGiven b c j k mid last is will []
    → IsGiven a c i k first last was will bytes
flushed a b c i j k first mid last was is will bytes p q =
    subst (λ (l : List ℕ). IsGiven a c i k first last was will l) (append-nil bytes)
    (more_given a b c i j k first mid last was is will bytes [] p q)
