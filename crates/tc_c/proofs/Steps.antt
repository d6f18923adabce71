-- The names that the walks by hand cite: of the calculus of memory, of the steps, and of what a struct owns.
pub use Rattle.std.proofs.Common.{◌≡◌, refl, sym, ap, ◌∙◌, ℕ, List, [], ◌∷◌, ◌++◌}
pub use Rattle.std.proofs.raw_atomic.Walks.{proved}
pub use base.Fraction.{full_share}
pub use base.Fml.{Fml, GName, ftrue, fat, froom, flft, fsep, fex}
pub use base.Logic.{id⊢, ent, sep, never}
pub use mir.Syntax.{named}
pub use mir.Val.{Val, vptr, vunit}
pub use contract.Running.{tables}
pub use types.Kit.{‵, raw, ◌⊛◌, some, later, at_ret, ◌$◌, ◌∵◌, !, qed, done, drop, move, keep, use1, use2, split, join}
pub use types.Kit.{fsplit, fsplit3, fjoin, fpack, feq_i, feq_l, pick, await, rewrite, suffices, frame, group}
pub use types.Logic.{sem}
pub use types.Part.{whole, sub, look_in, agg}
pub use types.Run.{enter, of_opd, unit_lit, load, addr, init, stop, fld, and_then, no_more, assigns, assigns_last}
pub use types.Run.{first, blocks, exec, returns}
pub use types.ByLocal.{alloc_all, pass_all, free_all, look_at, get, through, sets, sets_last, lands_as, env}
pub use denote.Exit.{yes, no}
pub use denote.Follow.{follows, Part, lends_Part}
pub use denote.Laws.{Is, shows}
pub use denote.Memory.{mem, part_at, cell_at, lone}
pub use denote.RattleType.{RattleType}
pub use denote.RawPtr.{Ptr, RawPtr, block_ptr, lies_at, in_a_block, rawptr_vals, rawptr_Tells}
pub use denote.Ref.{MutRef, mut_vals, mut_Tells}
pub use denote.Signature.{plain, mut_ref_to}
pub use denote.Steps.{nothing, opens, peeks}
pub use denote.Struct.Struct.{Struct}
pub use denote.Struct.Owning.{shape}
pub use denote.Triple.Walked.{Stays, says, stay_dropped, stay_none, Goes-none, Goes-spent_ref, walk_of, ends_at}
pub use Rattle.std.proofs.VecSteps.Shapes.{after}
pub use types.Kit.{prop, regoal}
pub use denote.RawPtr.{room_at}
pub use denote.Struct.Struct.{within}
pub use denote.RattleType.{Valss}
pub use denote.Triple.Call.{calls_at}
pub use denote.Triple.Clauses.{ensured}
pub use denote.Triple.Entry.{on_entry}
pub use denote.Triple.Spec.{triple_of}
pub use denote.Triple.Table.{framed}
pub use denote.Triple.Walked.{Goes-dropped}
pub use prog.Wp.{WpFn}
pub use borrow.Table.OneValue.{part_in}
