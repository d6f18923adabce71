-- A handle is a struct of one pointer, and owns what lies there, its lodger. It lends the lodger on: whatever that
-- borrow ends with, the handle owns. One walk is for every handle; each gives its names, its pointer and its value.
use Rattle.tc_c.proofs.Steps.{◌≡◌, refl, sym, ap, ◌∙◌, ℕ, List, [], ◌∷◌, ◌++◌, full_share, Fml, GName, ftrue, flft}
use Rattle.tc_c.proofs.Steps.{fsep, id⊢, ent, sep, named, Val, vptr, ‵, ◌⊛◌, some, later, at_ret, ◌$◌, ◌∵◌, ! }
use Rattle.tc_c.proofs.Steps.{qed, done, drop, move, keep, use1, split, join, fsplit, fsplit3, fjoin, fpack, feq_i}
use Rattle.tc_c.proofs.Steps.{feq_l, pick, await, rewrite, suffices, frame, group, sem, whole, sub, look_in, enter}
use Rattle.tc_c.proofs.Steps.{of_opd, load, addr, stop, fld, first, blocks, exec, returns, alloc_all, pass_all}
use Rattle.tc_c.proofs.Steps.{free_all, look_at, get, through, sets, sets_last, env, no, follows, lends_Part, mem}
use Rattle.tc_c.proofs.Steps.{part_at, cell_at, Ptr, RawPtr, block_ptr, lies_at, in_a_block, MutRef, mut_vals}
use Rattle.tc_c.proofs.Steps.{mut_Tells, plain, mut_ref_to, nothing, opens, shape, Stays, says, stay_dropped}
use Rattle.tc_c.proofs.Steps.{Goes-spent_ref, walk_of, ends_at, after, proved, tables, RattleType, lone, within, Valss}
use Rattle.std.proofs.Common.{MutBor, subst}
use base.Fml.{Lft}
use base.Logic.{emp}
use base.Stored.{Coded}
use contract.Monad.{fact}
use contract.Running.{Running}
use denote.Builtin.{RefMutOf}
use denote.Exit.{Kept, Exit}
use denote.Memory.{part_of}
use denote.RawPtr.{ptr_val}
use denote.Struct.Field.{RawPtr-field}
use denote.Struct.Owning.{Owning, row}
use denote.Triple.Clauses.{Clauses, Ended, closing}
use denote.Triple.Spec.{Meets}
use mir.Syntax.{Fn, Callee, Sym, Ty, erased, mut, ty_ptr, ty_ref, ty_named, tnil, local, value_local, place, deref}
use mir.Syntax.{field, copy, rv_opd, addr_of, seq, assign, block, return}
use mir.Val.{vstruct, of_list, vcons, vnil}
use prog.Model.{Model}
use prog.Wp.{Closed}
use seplogic.Ra.Ura.{Ura}
use types.Kit.{fpick}
use types.Logic.{Logic}

-- A handle type, and the type of the lodger, which lies behind its pointer: their names; where the lodger lies, its
-- value, and the handle with another value there; and what the toolchain makes of the handle besides.
pub record Handle : Type 2 where
  pub name : Sym
  pub lodger_name : Sym
  pub lodger_type : Ty
  pub lodger : RattleType
  pub D : Type 0
  pub at : D → Ptr
  pub value : D → lodger.Denot
  pub with : D → lodger.Denot → D
  pub at_stays : (h : D) (w : lodger.Denot) → at (with h w) ≡ at h
  pub value_is : (h : D) (w : lodger.Denot) → value (with h w) ≡ w
  pub coded : Coded D
  pub exit : Kept → Exit D
  pub shr_at : D → ℕ → ℕ → Lft → Fml

module _ (E : Handle) where
  -- the lodger's row, and the handle's
  abbrev pub K : RattleType
  K = record E.lodger { mir = E.lodger_type ∷ [] }

  abbrev pub type : Owning
  type = record {
    name = E.name;
    args = [];
    types = [];
    parts = RawPtr-field ∷ [];
    D = E.D;
    as_values = λ h. (E.at h, tt);
    coded = E.coded;
    heap = λ h. lies_at K full_share (E.at h) (E.value h);
    exit = E.exit;
    shr_at = E.shr_at;
  }

  abbrev pub H : RattleType
  H = row type

  abbrev to_lodger : Ty
  to_lodger = ty_named (E.lodger_name, []) tnil

  -- `unsafe { &mut *self.at.cast::<Lodger>() }`
  abbrev pub lending : Fn
  lending = record {
    lifetimes = 1;
    outlives = [];
    ty_params = [];
    givens = 0;
    params = 1;
    locals = local (ty_ref (named 0) mut to_lodger) value_local
        ∷ local (ty_ref (named 0) mut (ty_named (E.name, []) tnil)) value_local
        ∷ local (ty_ref erased mut to_lodger) value_local ∷ local ty_ptr value_local ∷ [];
    body = seq
        (block (seq (assign (place 3 []) (rv_opd (copy (place 1 (deref (lone H.mir) ∷ field 0 ∷ [])))))
        (assign (place 2 []) (addr_of (place 3 (deref (lone K.mir) ∷ []))))))
        (seq (assign (place 0 []) (rv_opd (copy (place 2 [])))) return);
  }

  abbrev pub ended : Ended
  ended = record {
    signature = record {
      lifetimes = 1;
      outlives = [];
      params = RefMutOf (0 ∷ []) tt (plain (λ _. H)) (λ _. tt) ∷ [];
      result = RefMutOf (0 ∷ []) tt (plain (λ _. K)) (λ _. tt);
    };
    kept = (no, tt);
  }

  abbrev stayed : Stays ended.signature.params ended.kept
  stayed = (stay_dropped (mut_ref_to (0 ∷ []) tt (plain (λ _. H))) no, tt)

  abbrev pub clauses : {M : Type 1} {𝓤 : Ura M} (𝓛 : Logic 𝓤) → Clauses 𝓤 ended
  clauses {𝓤 = 𝓤} 𝓛 κs a = record {
    ghost = Unit {0};
    requires = λ _. emp 𝓤;
    ensures = λ _ r _. sep 𝓤 (sem 𝓛 (follows H K a.0.ghost_name r.ghost_name (E.with a.0.now)))
        (fact 𝓤 (r.now ≡ E.value a.0.now));
  }

  -- who runs that code lends the lodger
  pub lends : {M : Type 1} {𝓤 : Ura M} (𝓛 : Logic 𝓤) (𝓜 : Model 𝓤 𝓛.H) (𝓡 : Running 𝓤 𝓛.H 𝓜) (k : Callee)
      → Closed 𝓤 𝓛.H (tables 𝓤 𝓛.H 𝓜 𝓡 𝓡.env).C (tables 𝓤 𝓛.H 𝓜 𝓡 𝓡.env).Λ k lending
      → Meets 𝓛 ended.signature ((tables 𝓤 𝓛.H 𝓜 𝓡 𝓡.env).C k) (closing 𝓛 ended (clauses 𝓛))
  unfolding part_of
  lends {𝓤 = 𝓤} 𝓛 𝓜 𝓡 k closed =
      let c = clauses 𝓛 in let W = walk_of 𝓛 ended stayed c in let 𝓣 = tables 𝓤 𝓛.H 𝓜 𝓡 𝓡.env in
      proved 𝓛 ended stayed c 𝓜 𝓡 (Goes-spent_ref 𝓛 1 (0 ∷ []) tt (plain (λ _. H)), tt) k lending closed
      (λ κs. (mut_vals, tt)) (λ κs. (mut_Tells (named 0) κs.0 H, tt)) (λ κs qs bounds a _ are.
      let κ = κs.0 in let q = qs.0 in let γ = a.0.ghost_name in let h = a.0.now in
      let b = a.0.ref_ptr.0 in let o = a.0.ref_ptr.1 in let vs = mut_vals a.0 in
      let y : W.Ghost = ((κs, qs, bounds, a, (vs, tt)), tt) in
      qed 𝓛 (((‵ (flft κ q) ⊛ ‵ ftrue) ⊛ ‵ ((MutRef (named 0) κ H).own_val a.0 vs) ⊛ ‵ ftrue) ∷ ‵ ftrue ∷ []) ∵
      split ! $ split ! $ move ! (2 ∷ []) $ split ! $ keep ! (0 ∷ 2 ∷ []) $
      enter ! _ _ _ _ _ $ alloc_all ! (λ l. pass_all ! refl ((tt, tt), tt) $
      fsplit3 ! $ move ! (1 ∷ 2 ∷ 3 ∷ []) $ opens ! tt H b o (λ us. move ! (1 ∷ []) $
      fsplit ! $ fpick ! (λ vss. fsplit ! $ feq_l ! (λ of_fields. fsplit ! $ feq_l ! (λ of_at. drop ! $
      in_a_block ! (E.at h) (λ p. lies_at K full_share p (E.value h)) (id⊢ 𝓤 _) (λ b' o' e.
      -- [the lodger; the handle's cell; the open borrow, in three entries]
      let word : Val = vstruct (vcons (vptr b' o') vnil) in
      let is_word : us ≡ word ∷ [] = subst (λ (p : Ptr). us ≡ vstruct (of_list (ptr_val p ∷ [])) ∷ []) e
      (subst (λ (ps : List Val). us ≡ vstruct (of_list (ps ++ [])) ∷ []) of_at of_fields) in
      let Rest : Fml = cell_at full_share H.mir (word ∷ []) b o in
      let lent : GName → MutBor E.lodger.Denot = λ δ. record { ref_ptr = (b', o'); ghost_name = δ; now = E.value h } in
      -- with any value there, the handle owns that one
      let back : (w : E.lodger.Denot) → ent 𝓤 (sep 𝓤 (sem 𝓛 ((mem K).own_at w b' o')) (sem 𝓛 Rest))
      (sem 𝓛 ((mem H).own_at (E.with h w) b o)) = λ w.
      let there : block_ptr b' o' ≡ E.at (E.with h w) = sym (E.at_stays h w ∙ e) in
      qed 𝓛 (‵ (part_at K full_share w b' o') ∷ ‵ Rest ∷ []) ∵
      rewrite ! 0 (λ (p : Ptr). ‵ (lies_at K full_share p w)) there refl $
      rewrite ! 0 (λ (x : E.lodger.Denot). ‵ (lies_at K full_share (E.at (E.with h w)) x)) (sym (E.value_is h w)) refl $
      nothing ! $ feq_i ! (List Val) (vptr b' o' ∷ []) _ (ap (λ (p : Ptr). ptr_val p ∷ []) there) $ fjoin ! $
      feq_i ! (List Val) (word ∷ []) _ refl $ fjoin ! $
      fpack ! (Valss (RawPtr ∷ [])) (within (shape type) (E.at (E.with h w), tt) (word ∷ [])) (vptr b' o' ∷ [], tt) $
      fjoin ! $ move ! (1 ∷ 0 ∷ []) $ fjoin ! $
      fpack ! (List Val) (λ ws. fsep (cell_at full_share H.mir ws b o) (H.own_val (E.with h w) ws)) (word ∷ []) $
      done ! in
      -- self.at
      rewrite ! 1 (λ (ws : List Val). ‵ (cell_at full_share H.mir ws b o)) is_word refl $ first ! $ blocks ! $
      sets ! (of_opd ! (load ! (through ! refl (fld ! refl (stop !))) (look_in ! 1 (sub ! 0 refl (whole !))))) refl
      (tt, tt) $
      -- &mut *
      sets_last ! (addr ! (through ! refl (stop !))) refl (tt, tt) $
      exec ! 𝓣.C 𝓣.Λ (env lending.locals l) (after 1 lending.body) (at_ret _ (W.post y)) $
      sets ! (of_opd ! (get ! refl)) refl (tt, tt) $
      -- the lodger is lent, and all else is kept until it comes back
      move ! (2 ∷ 3 ∷ 4 ∷ 0 ∷ 1 ∷ []) $ group ! 5 $
      use1 𝓛 (later (some (λ (δ : GName). ‵ ((MutRef (named 0) κ K).own_val (lent δ) (vptr b' o' ∷ []))
      ⊛ ‵ (flft κ q) ⊛ ‵ (follows H K γ δ (E.with h)))))
      (lends_Part 𝓛 H K (E.with h) (named 0) κ q b o b' o' γ (sem 𝓛 Rest) back (H.coded.code h) (H.coded.code h)
      (E.value h)) $
      await ! tt $ pick ! (λ δ.
      returns ! (look_at ! 0 refl) $ free_all ! refl $ keep ! (0 ∷ []) $ split ! $ move ! (1 ∷ []) $ split ! $
      -- [the token; the handle follows; the lodger's borrow]
      suffices ! _ (ends_at 𝓛 ended stayed c y (vptr b' o') (lent δ) (tt, tt) (tt, tt)) $
      move ! (2 ∷ []) $ nothing ! $ nothing ! $ fjoin ! $ join ! $ nothing ! $ move ! (2 ∷ 0 ∷ []) $ join ! $ join ! $
      frame ! $ says ! refl $ done !))))))))
