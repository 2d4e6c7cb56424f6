-- Options that are read one after the other.
use Rattle.std.proofs.Common.{◌≡◌, ◌≤◌, ℕ, ◌-◌, List, [], ◌∷◌, ◌++◌, Some, None, Ok, sym, ap, subst, ◌∙◌, arith, length, map, take, drop, Bor}
use Rattle.std.proofs.lemmas.List.{take_all, drop-map, drop_all, length-map, length-drop}
use Rattle.frame_requests.specs.Options.{Adds, BeginWith, Front, item_at, no_options, with_item}
use Rattle.frame_requests.specs.declared.options.Item.{Item}
use Rattle.frame_requests.specs.declared.options.Options.{Options}

-- the words from a place on
pub rest_of : (words : List (Bor (List ℕ))) (n : ℕ) → map (λ w. w.now) (take (length words - n) (drop n words)) ≡ drop n (map (λ w. w.now) words)
rest_of words n = ap (map (λ w. w.now)) (take_all (length words - n) (drop n words) (omega (arith, length-drop n words))) ∙ sym (drop-map (λ w. w.now) n words)

-- without an option
pub none_read : (words : List (List ℕ)) (o : Options) → o ≡ no_options → BeginWith words o
none_read words o none = record { items = []; adds = none }

adds_more : (is : List (Item × ℕ)) (words : List (List ℕ)) (old mid : Options) (i : Item × ℕ) → Adds is words old mid → item_at (drop mid.first words) mid.first ≡ Ok (Some i) → Adds (is ++ i ∷ []) words old (with_item mid i)
adds_more [] words old mid i same front = (subst (λ o. item_at (drop o.first words) o.first ≡ Ok (Some i)) same front, ap (λ o. with_item o i) same)
adds_more (j ∷ is) words old mid i adds front = (adds.0, adds_more is words (with_item old j) mid i adds.1 front)

-- with one more
pub one_read : (words : List (Bor (List ℕ))) (o new : Options) (i : Item × ℕ) → BeginWith (map (λ w. w.now) words) o
    → Ok (Some i) ≡ item_at (map (λ w. w.now) (take (length words - o.first) (drop o.first words))) o.first → new ≡ with_item o i → BeginWith (map (λ w. w.now) words) new
one_read words o new i begin front made = record {
  items = begin.items ++ i ∷ [];
  adds = subst (λ n. Adds (begin.items ++ i ∷ []) (map (λ w. w.now) words) no_options n) (sym made) (adds_more begin.items _ no_options o i begin.adds (ap (λ ws. item_at ws o.first) (sym (rest_of words o.first)) ∙ sym front));
}

-- after these is what was found
pub front_read : (words : List (Bor (List ℕ))) (o : Options) (f : Front) → f ≡ item_at (map (λ w. w.now) (take (length words - o.first) (drop o.first words))) o.first → item_at (drop o.first (map (λ w. w.now) words)) o.first ≡ f
front_read words o f front = ap (λ ws. item_at ws o.first) (sym (rest_of words o.first)) ∙ sym front

-- no word is left
pub all_read : (words : List (Bor (List ℕ))) (o : Options) → length words ≤ o.first → item_at (drop o.first (map (λ w. w.now) words)) o.first ≡ Ok None
all_read words o past = ap (λ ws. item_at ws o.first) (drop_all o.first (map (λ w. w.now) words) (omega (arith, length-map words (λ w. w.now), past)))
