use Rattle.std.proofs.Common.{◌≡◌, ◌+◌, ◌≤◌, ◌++◌, ◌∙◌, ℕ, List, [], Bor, length, ap, subst, sym, append-nil}
use Rattle.arrayvec.specs.ArrayVec.{array_vec_len}
use Rattle.made_commands.proofs.PageLines.{page_of_none, page_of_row}
use Rattle.made_commands.proofs.pages.push_row_page.Goals as goal

-- the table has no such row
pub returns-then-usages-page : goal.returns-then-usages-page
returns-then-usages-page c =
    let items = c.args.room.now.items in
    sym (append-nil items) ∙ ap (λ (l : List ℕ). items ++ l)
    (sym (page_of_none (λ row. (row.0.now, row.1.now)) c.args.usages.now c.args.page c.if-usages-page.true))

-- it has
pub push_page-requires : goal.push_page-requires
push_page-requires c =
    let none : Bor (List ℕ) × Bor (List ℕ) =
    (record { ref_ptr = (0, 0); now = [] }, record { ref_ptr = (0, 0); now = [] }) in
    subst (λ (l : List ℕ). array_vec_len c.args.room.now + length l ≤ 16384)
    (page_of_row (λ row. (row.0.now, row.1.now)) c.args.usages.now c.args.page none c.if-usages-page.false) c.requires

pub returns : goal.returns
returns c =
    let none : Bor (List ℕ) × Bor (List ℕ) =
    (record { ref_ptr = (0, 0); now = [] }, record { ref_ptr = (0, 0); now = [] }) in
    subst (λ (l : List ℕ). c.push_page.new.room.items ≡ c.args.room.now.items ++ l)
    (sym (page_of_row (λ row. (row.0.now, row.1.now)) c.args.usages.now c.args.page none c.if-usages-page.false))
    c.push_page.ensures
