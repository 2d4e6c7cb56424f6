-- The names of the logic that proofs by hand cite, passed on from one place. Declares nothing. Assumes `Logic`.
pub use base.Fml.{Fml, GName, Lft, Share, fat, fauth, fbor, fdead, feq, fex, fhide, flent, flft, fobor, fobs, fres, fsep, ftrue}
pub use base.Fraction.{full_share}
pub use base.Logic.{SProp, all, all_e, apply∗, emp, ent, ex, guard, id⊢, sep, wand}
pub use base.Stored.{coded_list}
pub use seplogic.Ra.Ura.{Ura}
pub use contract.BorrowLft.{meet_⊑_right, ⊑_meet, ⊑_refl, ⊑_trans, ◌⊑◌}
pub use contract.Lifetimes.{AllOutlive, Lfts}
pub use contract.Monad.{Fun, fact, fact_i}
pub use contract.Running.{tables}
unfoldable pub use contract.Running.{tables_of}
pub use mir.MapTy.{inst_fn}
pub use mir.Syntax.{Args, Dict, Fn, Lifetime, Ty, a_type, assign, block, call, call_v, cond, dcons, dnil, erased, exit, lend_static, loop, mut, named, return, seq, skip, switch, tcons, tnil, ty_int, ty_param, ty_ref, ty_unit, unreachable}
pub use mir.Val.{Val, WT, has_ty, of_list, vcons, vint, vnil, vptr, vstruct, vunit}
pub use prog.Memory.{Memory, size}
pub use prog.Routine.{Routine}
pub use prog.Wp.{Calls, Env, Loops, Tables, Wp, WpFn, after_seq, at_return}
pub use types.ByLocal.{alloc_all, env, forget_but, free_all, get, get_in, get_tag, give_at, holding, is, lands_as, lands_last, look_at, look_in_at, pass_all, sets, sets_last, take_at, through}
pub use types.Follow.{after, after₂, takes_part}
pub use types.Kit.{ !, Item, Sq, any_q, assume, now as at_once, at_ret, await, by, check, done, drop, each, feq_i, feq_l, fjoin, fjoin3, flt_i, flt_l, fpack, fpick, frame, fsplit, fsplit3, given, group, join, keep, later, learn, move, now, pick, post, prop, qed, raw, regoal, rewrite, runs, show, some, split, split3, suffices, updating, use0, use1, use2, use3, ‵, ◌$◌, ◌∵◌, ◌⊛◌}
pub use types.Logic.{Logic, sem}
pub use types.Match.{in_variant, live, vrt}
pub use types.Mut.{close_ref, open_ref}
pub use types.Part.{agg, whole as all_of, look_in, store_in, sub, whole}
pub use types.Run.{addr, and_then, assigns, assigns_last, bin, blocks, branches, enter, exec, first, fld, from, hop, lit, load, no_more, of_opd, returns, returns_within, size_word, skips, stop, store_raw, switches_on, unit_lit}
pub use types.SemTy.{Arr, Body, cells}
pub use types.Tokens.{name_done}
pub use denote.Array.{Array}
pub use denote.Builtin.{unit, usize}
pub use denote.Exit.{no, yes}
pub use denote.Follow.{followed, follows, follows_both, follows_if, follows_then}
unfoldable pub use denote.Follow.{both_by}
pub use denote.FollowSlice.{finally-res, heres_id}
pub use denote.Laws.{Is, Typed, shows}
pub use denote.Lend.{LentAgain, comes_back, lends_again, lends_ref, ref_back}
pub use denote.Memory.{cell_at, hidden_shr, mem, part_at}
pub use denote.Model.Fixed.{row_Makes}
pub use denote.Opens.{unhide}
pub use denote.Param.{bounded, copied, layout, layouts, param}
pub use denote.Param.Laws.{Laws, copied_copy, copied_laws, param_laws}
pub use denote.Plain.{uint_Makes, uint_Tells, uint_vals}
pub use denote.RattleType.{RattleType, Valss, owns}
pub use denote.RawPtr.{Ptr, block_ptr, in_a_block, ptr_val}
pub use denote.Ref.{MutRef, NamedLft, at_last, mut_Tells, mut_vals}
pub use denote.Shadow.{makes_shadow, pure_i, pure_l}
pub use denote.Signature.{mut_ref_to, mut_slice_of, named_lft, plain, types_at}
pub use denote.Slice.{MutSlice, Room, ShrSlice, mut_slice_vals, room, shr_slice_Tells, slice_ty, slice_val}
pub use denote.Steps.{closes, facts, heard, nothing, only, opens, owned, peeks}
pub use denote.Struct.Owning.{shape, to}
pub use denote.Struct.Struct.{Struct, within}
pub use denote.Struct.Tuple.{Tuple, tuple_type}
pub use denote.Through.{lends_inner_slice, renamed}
pub use denote.Triple.Call.{calls_at, calls_at_last}
pub use denote.Triple.Clauses.{Clauses, Ended, lasts}
pub use denote.Triple.Entry.{on_entry}
pub use denote.Triple.Spec.{triple_of}
pub use denote.Triple.Statement.{Contract}
pub use denote.Triple.Table.{framed}
pub use denote.Triple.Walked.{Goes-dropped, Goes-ref, Goes-spent_ref, Stays, ends_at, says, stay_dropped, stay_ref, walk_of}
pub use borrow.Table.Elements.{at, at_mul, cut_app, join_app, length-take-le}
pub use borrow.Table.OneValue.{part_in_at, part_out_at}
pub use mathlib.Core.Option.{none}
pub use Rattle.std.proofs.raw_atomic.Walks.{leaves, proved, proved_at}
