use Rattle.std.proofs.Common.{rules, ◌≡◌, ◌++◌, true, false, List, ℕ, length, take, ap, ◌∙◌}
use Rattle.luma_field.specs.Field.{belong, line_of_two}
use Rattle.luma_field.proofs.FirstTwenty.{full_stays, none_comes}
use Rattle.luma_field.proofs.TwoRows.{they_belong, they_do_not}
use Rattle.luma_field.proofs.lines.add_two.Goals as goal

pub returns-then-is_full : goal.returns-then-is_full
returns-then-is_full c =
    let items = c.args.lines.now.items in
    let full : length items ≡ 20 = search rules in
    full_stays items (line_of_two c.args.width c.args.a.now c.args.b.now) full

pub returns-then-belongs_to : goal.returns-then-belongs_to
returns-then-belongs_to c =
    let items = c.args.lines.now.items in
    let is : belong c.args.width c.args.a.now c.args.b.now ≡ true = search rules in
    c.add.ensures ∙ ap (λ (ls : List ℕ). take 20 (items ++ ls))
    (they_belong c.args.width c.args.a.now c.args.b.now c.with.result is c.with.ensures.joined)

pub returns-else-belongs_to : goal.returns-else-belongs_to
returns-else-belongs_to c =
    let items = c.args.lines.now.items in
    let not : belong c.args.width c.args.a.now c.args.b.now ≡ false = search rules in
    none_comes items c.is_full.ensures.fits ∙ ap (λ (ls : List ℕ). take 20 (items ++ ls))
    (they_do_not c.args.width c.args.a.now c.args.b.now not)
