use Rattle.std.proofs.Common.{ℕ, List, ◌++◌, subst, ap, sym, ◌∙◌, append-nil}
use Rattle.biphase.specs.declared.profile.Profile.{Profile}
use Rattle.direction_reader.specs.ListEvents.{AreEvents}
use Rattle.direction_reader.specs.Tracker.{profile_of}
use Rattle.tc_address.specs.declared.system.System.{System}
use Rattle.sound_reader.proofs.laws.what_is_given_are_the_events_of_the_samples.Goals as goal

pub returns : goal.returns
returns c = λ s samples events h settled.
    let all = sym (append-nil h.intervals) ∙ ap (λ (ys : List ℕ). h.intervals ++ ys) (sym settled) ∙ h.all in
    let own = c.a_reader_gives_the_events_of_its_list.ensures s.reader h.intervals events h.read in
    let of_system = subst (λ (sys : System). AreEvents sys (profile_of s.reader.tracker) h.intervals events) h.system
    own in
    let of_profile = subst (λ (p : Profile). AreEvents s.settings.system p h.intervals events) h.profile of_system in
    subst (λ (l : List ℕ). AreEvents s.settings.system s.settings.profile l events) all of_profile
