use Rattle.std.proofs.Common.{◌*◌, ◌++◌, List, ℕ, ℤ, arith, refl, subst, sym, take}
use Rattle.std.proofs.lemmas.List.{length-append, length-take-le}
use Rattle.signal_commands.specs.declared.pcm_ltc.TheConstants.{MAX_SAMPLES}
use Rattle.signal_commands.specs.KeptRaw.{raw_said, HoldsRaw}
use Rattle.signal_commands.specs.KeptListening.{Adds}
use Rattle.signal_commands.proofs.RawOn.{raw_adds, raw_ends, raw_waits}
use Rattle.signal_commands.proofs.raw_samples.RawSamplesContainer.take.Goals as goal

-- half a sample
pub returns-then-bytes-eq1 : goal.returns-then-bytes-eq1
returns-then-bytes-eq1 c = (
  refl,
  record {
    few = omega (arith, c.if-bytes-eq1.true);
    short = c.if-bytes-eq1.true;
    none = λ front holds. raw_waits c.args.self.now front c.args.bytes.now holds c.if-bytes-eq1.true;
  },
)

-- whole samples
pub returns-in-Some : goal.returns-in-Some
returns-in-Some c =
    let s = c.args.self.now in
    let next = c.read.new.self in
    let bytes = c.args.bytes.now in
    let e = c.in-Some.ensures in
    let n = c.in-Some.samples in
    let more = take (2 * n) bytes in
    let long = length-take-le (2 * n) bytes e.some.1 in
    let holds : (front : List ℕ) → HoldsRaw s front → HoldsRaw next (front ++ more) = λ front h. record {
      within = e.samples.1;
      count = omega (arith, length-append front more, long, h.count, e.samples.0);
    } in (
      record {
        some = omega (arith, e.some.0);
        within = e.some.1;
        asked = refl;
        left = omega (arith, e.some.0, e.samples.0, e.samples.1);
        holds = holds;
      },
      e.some.2,
      λ front h.
          subst (λ (l : List ℤ). Adds MAX_SAMPLES (raw_said front) (raw_said (front ++ more)) l) (sym e.read)
          (raw_adds s next front more h (holds front h)),
    )

-- no more may come
pub returns-in-None : goal.returns-in-None
returns-in-None c = (
  refl,
  λ front h.
      raw_ends c.args.self.now front c.args.bytes.now h c.in-None.ensures.limit
      (omega (arith, c.requires.some, c.if-bytes-eq1.false)),
)
