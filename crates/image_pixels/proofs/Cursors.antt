-- What the walks of both pixel cursors over a pointer share: their machine value, an `if`'s first arm, and a count that a `&` points to. Assumes `Logic`.
use Rattle.std.proofs.Common.{refl, ℕ, ◌<◌, ◌^◌, List, [], ◌∷◌, w64}
use Rattle.borrow_laws.proofs.Walking.{Ura, ty_int, skip, cond, Val, vint, vptr, vstruct, vcons, vnil, Lft, Share, flft, fat, Logic, Item, flt_i, flt_l, ‵, ◌$◌, move, drop, rewrite, fsplit, fjoin, feq_i, feq_l, post, any_q, usize, cell_at, part_at, hidden_shr, Wp, Env, Calls, Loops, after_seq}
use mir.Syntax as syntax
use types.Kit.{Goal, Soaks, Step, step, Seq, Post}
use denote.Copied.{uint_Copied}
use denote.Opens.{Shut}
use denote.Steps.{looks, shuts}

-- the one machine value of a cursor
abbrev pub words : ℕ → ℕ → ℕ → ℕ → ℕ → ℕ → Val
words b o remaining rows width pad = vstruct (vcons (vptr b o) (vcons (vint w64 remaining) (vcons (vint w64 rows) (vcons (vint w64 width) (vcons (vint w64 pad) (vcons (vstruct vnil) vnil))))))

-- the continuation of a statement before b, and the first arm of a `cond`
module _ {M : Type 1} {𝓤 : Ura M} (𝓛 : Logic 𝓤) where
  open 𝓛 use {H}

  abbrev pub then_runs : Calls 𝓤 H → Loops 𝓤 H → Env 𝓤 H → syntax.Body → Post 𝓤 H → Post 𝓤 H
  then_runs C Λ E b q = any_q (after_seq 𝓤 H (Wp 𝓤 H C Λ E b (post 𝓤 H q)) (post 𝓤 H q))

abbrev pub then_arm : syntax.Body → syntax.Body
then_arm (cond x₀ x₁ x₂) = x₁
then_arm x₀ = skip

-- a `usize` that a `&` points to is looked at: [the word; the way back]
module _ {M : Type 1} {𝓤 : Ura M} {𝓛 : Logic 𝓤} {K : Type 0} {Γ : List (Item 𝓤)} {G : Goal 𝓤 𝓛.H} where
  pub word_in : K → Soaks G → {κ : Lft} {q : Share} (n b at : ℕ)
      → ((q' : Share) → n < 2 ^ 64 → Seq K 𝓛 (‵ (fat q' (ty_int w64) b at (vint w64 n)) ∷ Shut 𝓛 κ q (part_at usize q' n b at) ∷ Γ) G) → Seq K 𝓛 (‵ (hidden_shr usize κ n b at) ∷ ‵ (flft κ q) ∷ Γ) G
  word_in t z n b at k =
      looks t z usize (uint_Copied 𝓛 w64).opens n b at (λ q' vs. move t (1 ∷ []) $ fsplit t $ feq_l t (λ e. flt_l t (λ fn.
      rewrite t 0 (λ (us : List Val). ‵ (cell_at q' usize.mir us b at)) e refl $ move t (2 ∷ []) $ drop t $ k q' fn)))

  pub word_out : K → Soaks G → {κ : Lft} {q q' : Share} (n b at : ℕ) → n < 2 ^ 64
      → Step K 𝓛 (‵ (flft κ q) ∷ Γ) G (‵ (fat q' (ty_int w64) b at (vint w64 n)) ∷ Shut 𝓛 κ q (part_at usize q' n b at) ∷ Γ) G
  word_out t z {q' = q'} n b at fn = step (λ s.
      flt_i t n (2 ^ 64) fn $ feq_i t (List Val) (vint w64 n ∷ []) (vint w64 n ∷ []) refl $ fjoin t $ move t (1 ∷ 0 ∷ []) $ shuts t z usize q' n (vint w64 n ∷ []) b at $ s)
