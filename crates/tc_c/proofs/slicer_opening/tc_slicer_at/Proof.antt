-- `tc_slicer_at` fills two rooms: the first with a slicer of sound, and the second with a handle that points there.
use Rattle.tc_c.proofs.Steps.{refl, List, [], ◌∷◌, ◌++◌, proved, full_share, ftrue, id⊢, Val, vptr, vunit, tables, ‵}
use Rattle.tc_c.proofs.Steps.{raw, prop, regoal, ◌⊛◌, some, later, at_ret, ◌$◌, ◌∵◌, !, qed, done, drop, move, use1}
use Rattle.tc_c.proofs.Steps.{use2, split, join, fsplit, fjoin, fpack, feq_i, pick, await, suffices, group, agg, enter}
use Rattle.tc_c.proofs.Steps.{of_opd, unit_lit, init, stop, and_then, no_more, assigns, assigns_last, first, blocks}
use Rattle.tc_c.proofs.Steps.{exec, returns, alloc_all, pass_all, free_all, look_at, get, through, sets, lands_as, env}
use Rattle.tc_c.proofs.Steps.{yes, shows, part_at, Ptr, RawPtr, block_ptr, room_at, lies_at, in_a_block, rawptr_vals}
use Rattle.tc_c.proofs.Steps.{rawptr_Tells, plain, nothing, peeks, within, Valss, shape, Stays, stay_dropped}
use Rattle.tc_c.proofs.Steps.{Goes-dropped, walk_of, ends_at, after, calls_at, ensured, on_entry, triple_of, framed}
use Rattle.tc_c.proofs.Steps.{WpFn, part_in}
use mir.Val.{vstruct, vcons, vnil}
use Rattle.sound_reader.specs.Slicer.{SlicerState}
use Rattle.tc_c.specs.declared.slicer_handle.TcSlicer.{TcSlicer}
use Rattle.tc_c.specs.Opening.{HasSlicerRoom}
use Rattle.tc_c.specs.contracts.slicer_handle.TcSlicer.{the_row as H, the_type}
use Rattle.tc_c.specs.contracts.slicer_kept.KeptSlicer.{the_row as K}
use Rattle.tc_c.specs.contracts.slicer_opening.tc_slicer_at as f
use Rattle.tc_c.specs.contracts.slicer_opening.blank as g
use Rattle.tc_c.proofs.slicer_kept.KeptSlicer.TheLaws.{the_row_laws}
use Rattle.tc_c.proofs.slicer_opening.blank.Met.{met}
use Rattle.tc_c.proofs.slicer_opening.tc_slicer_at.Statement.{statement}
use Rattle.tc_c.proofs.slicer_opening.tc_slicer_at.Code as code

abbrev stayed : Stays f.ended.signature.params f.ended.kept
stayed = (stay_dropped _ yes, (stay_dropped _ yes, tt))

pub tc_slicer_at_spec : {M : Type 1} → statement M
tc_slicer_at_spec 𝓤 𝓛 𝓜 𝓡 wired =
    let c = f.clauses 𝓛 𝓜.mem 𝓡.returns in let W = walk_of 𝓛 f.ended stayed c in let 𝓣 = tables 𝓤 𝓛.H 𝓜 𝓡 𝓡.env in
    let goes = Goes-dropped 𝓛 0 (plain (λ _. RawPtr)) yes (λ κs x w. refl) in
    proved 𝓛 f.ended stayed c 𝓜 𝓡 (goes, (goes, tt))
    f.Key.name code.function (code.unfolded 𝓤 𝓛.H 𝓜 𝓡 wired)
    (λ κs. (rawptr_vals, (rawptr_vals, tt))) (λ κs. (rawptr_Tells, (rawptr_Tells, tt))) (λ κs qs bounds a _ are.
    let y : Ptr → Ptr → W.Ghost = λ p h. ((κs, qs, bounds, (p, (h, tt)), (rawptr_vals p, (rawptr_vals h, tt))), tt) in
    qed 𝓛 (raw (on_entry 𝓛 f.signature κs qs a (y a.0 a.1.0).0.4) ∷ ‵ (HasSlicerRoom a.0 a.1.0) ∷ []) ∵ drop ! $
    fsplit ! $
    -- neither of the two is null, so each is a place
    in_a_block ! a.0 (λ p. room_at K p) (id⊢ 𝓤 _) (λ b o e.
    regoal ! (λ p. prop (WpFn 𝓤 𝓛.H 𝓣.C 𝓣.Λ code.function (rawptr_vals p ++ (rawptr_vals a.1.0 ++ []))
    (W.post (y p a.1.0)))) e refl $ move ! (1 ∷ []) $
    in_a_block ! a.1.0 (λ p. room_at H p) (id⊢ 𝓤 _) (λ hb ho he.
    regoal ! (λ p. prop (WpFn 𝓤 𝓛.H 𝓣.C 𝓣.Λ code.function (vptr b o ∷ (rawptr_vals p ++ []))
    (W.post (y (block_ptr b o) p)))) he refl $
    let end = y (block_ptr b o) (block_ptr hb ho) in
    -- [room for a handle; room for a reader]
    enter ! _ _ _ _ _ $ alloc_all ! (λ l. pass_all ! refl ((tt, tt), ((tt, tt), tt)) $
    -- blank()
    let G = triple_of 𝓛 g.signature (g.spec 𝓛 𝓜.mem 𝓡.returns) in let z : G.Ghost = ((tt, tt, tt, tt, tt), tt) in
    nothing ! $ nothing ! $ join ! $ nothing ! $ move ! (1 ∷ 0 ∷ []) $ join ! $ use1 𝓛 (raw (G.pre z)) (id⊢ 𝓤 _) $
    calls_at ! (framed 𝓤 𝓛.H 𝓜 (tables 𝓤 𝓛.H 𝓜 𝓡 𝓡.env)) G
    (met 𝓤 𝓛 𝓜 𝓡 (code.calls-tc_c::slicer_opening::blank 𝓡.env wired)) z
    (no_more !) (λ v.
    use1 𝓛 (later (some (λ (r : SlicerState). (‵ ftrue ⊛ ‵ (K.own_val r (v ∷ [])))
    ⊛ raw (ensured 𝓛 g.ended (g.clauses 𝓛 𝓜.mem 𝓡.returns) tt tt tt r)))) (id⊢ 𝓤 _) $
    await ! tt $ pick ! (λ r. split ! $ move ! (1 ∷ []) $ drop ! $ split ! $ drop ! $
    peeks ! K _ (shows 𝓛 K) r (v ∷ []) (λ is. let typed = ((the_row_laws.lawful 𝓛).typed r (v ∷ []) is).0 in
    lands_as ! refl refl typed $
    -- [what the reader owns; room for a handle; room for the reader]
    -- room.write(reader)
    first ! $ blocks ! $
    assigns ! (of_opd ! (get ! refl)) (through ! refl (stop !)) (init ! 2 refl typed) $
    -- handle.write(TcReader { at: room })
    sets ! (agg ! (and_then ! (get ! refl) (no_more !))) refl (tt, (tt, tt)) $
    assigns_last ! (of_opd ! (get ! refl)) (through ! refl (stop !)) (init ! 1 refl (tt, (tt, tt))) $
    exec ! 𝓣.C 𝓣.Λ (env (code.function).locals l) (after 2 (code.function).body) (at_ret _ (W.post end)) $
    sets ! (of_opd ! (unit_lit !)) refl (tt, tt) $
    returns ! (look_at ! 0 refl) $ free_all ! refl $
    suffices ! _ (ends_at 𝓛 f.ended stayed c end vunit tt (tt, (tt, tt)) (tt, (tt, tt))) $
    -- the reader lies there, so the handle owns it
    let h : TcSlicer = record { at = block_ptr b o; value = r } in let word = vstruct (vcons (vptr b o) vnil) in
    move ! (2 ∷ 0 ∷ []) $ use2 𝓛 (‵ (part_at K full_share r b o)) (part_in 𝓛 K refl full_share r b o v) $
    nothing ! $ feq_i ! (List Val) (vptr b o ∷ []) _ refl $ fjoin ! $ feq_i ! (List Val) (word ∷ []) _ refl $ fjoin ! $
    fpack ! (Valss (RawPtr ∷ [])) (within (shape the_type) (h.at, tt) (word ∷ [])) (vptr b o ∷ [], tt) $ fjoin ! $
    move ! (1 ∷ 0 ∷ []) $ use2 𝓛 (‵ (part_at H full_share h hb ho)) (part_in 𝓛 H refl full_share h hb ho word) $
    fpack ! SlicerState (λ (value : SlicerState). lies_at H full_share (block_ptr hb ho)
    (record h { value = value })) r $
    feq_i ! _ (vunit ∷ []) _ refl $ nothing ! $ nothing ! $ join ! $ nothing ! $ join ! $ nothing ! $ group ! 3 $
    done !)))))))
