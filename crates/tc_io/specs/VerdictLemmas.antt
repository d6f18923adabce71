-- What the verdict of an input says of that of its file. No promise speaks of it.
use Rattle.std.proofs.Common.{◌≡◌, Option, Some, None, refl, ap, ◌∙◌}
use Rattle.std.specs.Option.{option_map}
use Rattle.tc_io.specs.Verdict.{Verdict, good, refused, past_limit, verdict_as}

pub is_good : {F G : Type 0} (name : F → G) (v : Verdict F) → verdict_as name v ≡ good → v ≡ good
is_good name good e = refl
is_good name (refused fault) e = absurd cc
is_good name past_limit e = absurd cc

pub good_too : {F G : Type 0} (name : F → G) (v : Verdict F) → v ≡ good → verdict_as name v ≡ good
good_too name good e = refl
good_too name (refused fault) e = absurd cc
good_too name past_limit e = absurd cc

pub is_refused : {F G : Type 0} (name : F → G) (v : Verdict F) (g : G) → verdict_as name v ≡ refused g
    → (fault : F) × (v ≡ refused fault)
is_refused name good g e = absurd cc
is_refused name (refused fault) g e = (fault, refl)
is_refused name past_limit g e = absurd cc

pub is_past : {F G : Type 0} (name : F → G) (v : Verdict F) → verdict_as name v ≡ past_limit → v ≡ past_limit
is_past name good e = absurd cc
is_past name (refused fault) e = absurd cc
is_past name past_limit e = refl

-- a fault and the limit stay with more bytes where those of the file do
pub fault_stays : {F G : Type 0} (name : F → G) (v u : Verdict F) (g : G)
    → ((fault : F) → v ≡ refused fault → u ≡ refused fault) → verdict_as name v ≡ refused g
    → verdict_as name u ≡ refused g
fault_stays name good u g stays e = absurd cc
fault_stays name (refused fault) u g stays e = ap (verdict_as name) (stays fault refl) ∙ e
fault_stays name past_limit u g stays e = absurd cc

pub limit_stays : {F G : Type 0} (name : F → G) (v u : Verdict F)
    → (v ≡ past_limit → u ≡ past_limit) → verdict_as name v ≡ past_limit → verdict_as name u ≡ past_limit
limit_stays name good u stays e = absurd cc
limit_stays name (refused fault) u stays e = absurd cc
limit_stays name past_limit u stays e = ap (verdict_as name) (stays refl)

pub ends_whole : {F G : Type 0} (name : F → G) (fault : Option F) → option_map name fault ≡ None → fault ≡ None
ends_whole name None e = refl
ends_whole name (Some fault) e = absurd cc
