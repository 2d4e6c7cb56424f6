-- A fold that is under way over the items of a cursor, taken a row at a time.
use Rattle.std.proofs.Common.{◌≡◌, ◌<◌, ◌≤◌, ◌^◌, ◌*◌, ◌+◌, ℕ, true, Some, List, [], ◌∷◌, ◌++◌, length, drop, get_or, replicate, refl, sym, ap, ◌∙◌, arith, mul-le-mul_left}
use Rattle.std.proofs.iter.Next.{served, Serves-on, Yields-more}
use Rattle.std.proofs.slice.Lists.{chained_more}
use Rattle.std.proofs.lemmas.List.{drop_more, drop_all}
use Rattle.std.specs.Fn.{Called, Takes}
use Rattle.std.specs.List.{FoldsTo}
use Rattle.std.specs.Iterator.{CallableInFold, FoldsItems, FoldTurn, YieldsFirstBy, Yields}
use denote.Param.Members.{Mut}
use Rattle.image_pixels.specs.Marks.{pick}
use Rattle.image_pixels.specs.Pixels.{refs_left, copies_left}
use Rattle.image_pixels.specs.declared.pixels.PixelsRefIter.{PixelsRefIter}
use Rattle.image_pixels.specs.declared.pixels.PixelsIter.{PixelsIter}
use Rattle.image_pixels.proofs.Marks.{length-pixels}

-- a cursor that shows the items that are left by `view`; `after` is one that has the first of them no more
module _ {S A X F B : Type 0} (view : A → X) (rest : S → List X) (after : (s : S) (x : X) (xs : List X) → rest s ≡ x ∷ xs → (t : S) × (rest t ≡ xs)) (g : Mut F (B × (A × Unit {0})) B) (f₀ : F) (b₀ : B) (s₀ : S) where
  -- calls of `next` from s₀ on came to a cursor with the items xs left, and the closure took f₀ and b₀ to f and b
  pub record Folded (xs : List X) (f : F) (b : B) : Type 0 where
    pub state : S
    pub remaining : rest state ≡ xs
    pub seen : List A
    pub gave : Yields (YieldsFirstBy view rest) s₀ seen state
    pub folds : FoldsTo {P = F × B} (FoldTurn g) (f₀, b₀) seen (f, b)
    pub callable : CallableInFold (YieldsFirstBy view rest) g state f b

  -- at first none
  pub folded_none : CallableInFold (YieldsFirstBy view rest) g s₀ f₀ b₀ → Folded (rest s₀) f₀ b₀
  folded_none h = record { state = s₀; remaining = refl; seen = []; gave = refl; folds = refl; callable = h }

  module _ (x : A) (xs : List X) (f : F) (b : B) (i : Folded (view x ∷ xs) f b) where
    next : (t : S) × (rest t ≡ xs)
    next = after i.state (view x) xs i.remaining

    step : YieldsFirstBy view rest i.state (Some x) next.0
    step = i.remaining ∙ ap (λ ys. view x ∷ ys) (sym next.1)

    -- the closure takes the next item
    pub fold_takes : Takes g f (b, (x, tt))
    fold_takes = served i.callable x next.0 step

    -- and then one more is folded
    pub folded_one : (f' : F) (b' : B) → Called g f (b, (x, tt)) b' f' → Folded xs f' b'
    folded_one f' b' called = record {
      state = next.0;
      remaining = next.1;
      seen = i.seen ++ (x ∷ []);
      gave = Yields-more (YieldsFirstBy view rest) s₀ i.seen i.state x next.0 i.gave step;
      folds = chained_more {P = F × B} (FoldTurn g) _ i.seen _ x _ i.folds called;
      callable = Serves-on i.callable x next.0 step (f', b') called;
    }

  -- where none is left, all are folded
  pub folded_all : (xs : List X) (f : F) (b : B) → Folded xs f b → xs ≡ [] → FoldsItems (YieldsFirstBy view rest) g s₀ f₀ b₀ b
  folded_all xs f b i none = (i.seen, f, (i.state, (i.state, i.gave, (i.remaining ∙ none, i.remaining ∙ none))), i.folds)

-- the items from the i-th on are that one and those after it
pub from_item : {X : Type 0} (xs ys : List X) (i : ℕ) (x : X) → i < length xs → x ≡ get_or xs i x → drop i xs ++ ys ≡ x ∷ (drop (i + 1) xs ++ ys)
from_item xs ys i x within e = ap (λ zs. zs ++ ys) (drop_more xs i x within ∙ ap (λ y. y ∷ drop (i + 1) xs) (sym e))

-- from the end on there is none
pub from_end : {X : Type 0} (xs ys : List X) (i : ℕ) → length xs ≤ i → drop i xs ++ ys ≡ ys
from_end xs ys i past = ap (λ zs. zs ++ ys) (drop_all i xs past)

-- ---- the pixel cursors for reading

pick_all : {X : Type 0} (xs : List X) → pick (replicate (length xs) true ++ []) xs ≡ xs
pick_all [] = refl
pick_all (x ∷ xs) = ap (λ ys. x ∷ ys) (pick_all xs)

module _ {T : Type 0} where
  pub refs_after : (s : PixelsRefIter T) (x : T) (xs : List T) → refs_left s ≡ x ∷ xs → (t : PixelsRefIter T) × (refs_left t ≡ xs)
  unfolding refs_left
  refs_after s x xs e =
      let count : length (refs_left s) ≡ s.remaining + s.rows_left * s.width = length-pixels s.remaining s.rows_left s.width s.pad s.cells.cells s.reaches in
      let less : s.rows_left * s.width ≤ s.rows_left * (s.pad + s.width) = mul-le-mul_left s.rows_left (omega arith) in
      let fewer : length xs < 2 ^ 64 = omega (arith, ap length e, count, less, s.reaches, s.cells.small) in (
        record {
          cells = record { current = s.cells.current; marker = s.cells.marker; cells = xs; small = fewer };
          remaining = length xs;
          rows_left = 0;
          width = s.width;
          pad = s.pad;
          reaches = omega arith;
          wide = λ some. absurd (omega (arith, some));
        },
        pick_all xs,
      )

  pub copies_after : (s : PixelsIter T) (x : T) (xs : List T) → copies_left s ≡ x ∷ xs → (t : PixelsIter T) × (copies_left t ≡ xs)
  unfolding copies_left
  copies_after s x xs e = let t = refs_after s.inner x xs e in (record { inner = t.0 }, t.1)
