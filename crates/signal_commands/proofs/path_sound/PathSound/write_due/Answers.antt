use Rattle.std.proofs.Common.{rules, ◌++◌, ◌∷◌, List, [], ℕ, refl, subst, sym, append_assoc, append-nil}
use Rattle.interval_file.specs.declared.header.FileVersion.TheVariants.{One}
use Rattle.interval_file.specs.Grammar.{intervals_bytes}
use Rattle.interval_file.specs.Piece.{spelling}
use Rattle.path_front.specs.Front.{FrontStandsFor}
use Rattle.signal_commands.proofs.PathOn.{goes_on, one_more_spelled}
use Rattle.signal_commands.proofs.path_sound.PathSound.write_due.Goals as goal

-- none yet
pub due-init : goal.due-init
due-init g c = record {
  given = λ samples given stand. (
    [],
    g.O.Output.given_none c.args.out.now,
    subst (λ (l : List ℕ). FrontStandsFor c.args.self.now.front samples l) (sym (append-nil given)) stand,
  );
  goes = search rules;
  path = refl;
}

-- one interval more
pub due-preserved : goal.due-preserved
due-preserved g c = record {
  given = λ samples given stand.
      let was = c.due.invariant.given samples given stand in
      let interval = c.in-Some.interval in
      let next = c.in-Some.ensures.gives samples (given ++ was.0) was.2 in (
        was.0 ++ interval ∷ [],
        subst (λ (l : List ℕ). g.O.Output.given c.args.out.now c.gather.new.self l) (one_more_spelled was.0 interval)
            (g.O.Output.given_more c.args.out.now c.due.out c.gather.new.self (intervals_bytes One was.0)
            (spelling One interval) was.1 (rw c.four_bytes.ensures at c.gather.ensures)),
        subst (FrontStandsFor c.next.new.self samples) (append_assoc given was.0 (interval ∷ [])) next,
      );
  goes = goes_on c.args.self.now.front c.due.self.front c.next.new.self c.due.invariant.goes c.in-Some.ensures.goes;
  path = c.due.invariant.path;
}

-- there is none
pub returns-clause-all : goal.returns-clause-all
returns-clause-all g c = λ samples given stand.
    let was = c.due.invariant.given samples given stand in
    let last = c.in_default.ensures.gives samples (given ++ was.0) was.2 in
    (was.0, was.1, record { stands = last.0; all = last.1; so_far = last.2 })
