use Rattle.std.proofs.Common.{◌≡◌, ◌-◌, ◌*◌, ℕ, List, take, replicate, sym, subst, ap, ◌∙◌, arith}
use Rattle.pcm_front.specs.Samples.{bytes_of}
use Rattle.interval_commands.proofs.SoundGrows.{runs_split, shorter_run}
use Rattle.interval_commands.proofs.ltc_pcm.write_run.Goals as goal

-- a whole run more
pub runs-preserved : goal.runs-preserved
runs-preserved g c =
    let i = c.runs.invariant in
    let more = c.runs-test.true in
    let before = c.args.samples - c.runs.rest in
    let after = c.args.samples - (c.runs.rest - 512) in
    record {
      within = omega (arith, i.within);
      put = λ sample is.
          subst (λ (l : List ℕ). g.O.Output.given c.args.out.now c.gather.new.self l)
          (sym (runs_split before 512 after sample (omega (arith, i.within, more))))
          (g.O.Output.given_more _ _ _ (bytes_of (replicate before sample)) (bytes_of (replicate 512 sample))
          (i.put sample is) (rw is at (rw c.as_slice.ensures.value at c.gather.ensures)));
    }

-- the last samples
pub returns : goal.returns
returns g c = λ sample is.
    let i = c.runs.invariant in
    let before = c.args.samples - c.runs.rest in
    let last : take (2 * c.runs.rest) c.args.run.now.items ≡ bytes_of (replicate c.runs.rest sample) =
    ap (take (2 * c.runs.rest)) is ∙ shorter_run c.runs.rest 512 sample c.runs-test.false in
    subst (λ (l : List ℕ). g.O.Output.given c.args.out.now c.gather-2.new.self l)
    (sym (runs_split before c.runs.rest c.args.samples sample (omega (arith, i.within))))
    (g.O.Output.given_more _ _ _ (bytes_of (replicate before sample)) (bytes_of (replicate c.runs.rest sample))
    (i.put sample is) (rw last at (rw c.as_slice-2.ensures.value at c.gather-2.ensures)))
