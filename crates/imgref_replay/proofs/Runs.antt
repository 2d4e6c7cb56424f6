-- Runs of commands, one after the other.
use Rattle.std.proofs.Common.{◌≡◌, ◌<◌, Bool, List, [], ◌∷◌, ◌++◌, Option, Some, None, length, map, get_or, refl, sym, ap, ◌∙◌, subst, arith}
use Rattle.std.specs.List.{list_any}
use Rattle.std.specs.Option.{option_map_or}
use Rattle.std.proofs.lemmas.List.{length-map, length-set}
use Rattle.std.proofs.lemmas.List.Folds.{list_any-append}
use Rattle.std.proofs.lemmas.Option.{slice_get_within, slice_get-get_or}
use Rattle.image_model.specs.Layout.{Layout}
use Rattle.image_model.specs.Grid.{Grid, grid_of}
use Rattle.image_model.specs.Compaction.{IsKept}
use Rattle.image_model.proofs.Compaction.{kept_twice}
use Rattle.image_commands.specs.Commands.{Write, written, sizes_of, meaning}
use Rattle.imgref_replay.specs.Step.{fault_of, effect_of, reply_to, after, compacts}
use Rattle.imgref_replay.specs.Run.{replies_to, after_all, IsRun}
use Rattle.image_commands.specs.declared.commands.Command.{Command}
use Rattle.image_commands.specs.declared.commands.Refusal.{Refusal}
use Rattle.image_commands.specs.declared.commands.Reply.{Reply}

replies_append : {T : Type 0} (eq : T → T → Bool) (cs ds : List (Command T)) (grids : List (Grid T)) → replies_to eq (cs ++ ds) grids ≡ replies_to eq cs grids ++ replies_to eq ds (after_all cs grids)
replies_append eq [] ds grids = refl
replies_append eq (c ∷ cs) ds grids = ap (λ rs. reply_to eq c grids ∷ rs) (replies_append eq cs ds (after c grids))

after_append : {T : Type 0} (cs ds : List (Command T)) (grids : List (Grid T)) → after_all (cs ++ ds) grids ≡ after_all ds (after_all cs grids)
after_append [] ds grids = refl
after_append (c ∷ cs) ds grids = after_append cs ds (after c grids)

length-effect : {T : Type 0} (grids : List (Grid T)) (write : Option (Write T)) → length (option_map_or (λ w. written w grids) write grids) ≡ length grids
length-effect grids None = refl
length-effect grids (Some write) = simp length-set

length-unless : {T : Type 0} (grids others : List (Grid T)) (fault : Option Refusal) → length others ≡ length grids → length (option_map_or (λ _. grids) fault others) ≡ length grids
length-unless grids others None e = e
length-unless grids others (Some refusal) e = refl

length-after : {T : Type 0} (command : Command T) (grids : List (Grid T)) → length (after command grids) ≡ length grids
length-after command grids = length-unless grids (effect_of command grids) (fault_of command grids) (length-effect grids ((meaning command).write (sizes_of grids)))

length-after_all : {T : Type 0} (cs : List (Command T)) (grids : List (Grid T)) → length (after_all cs grids) ≡ length grids
length-after_all [] grids = refl
length-after_all (c ∷ cs) grids = length-after_all cs (after c grids) ∙ length-after c grids

-- a run leaves as many images as there were
length-run : {T : Type 0} (eq : T → T → Bool) (cs : List (Command T)) (olds news : List (Layout T)) (rs : List (Reply T)) → IsRun eq cs olds news rs → length news ≡ length olds
length-run eq cs olds news rs a = sym (length-map news grid_of) ∙ ap length a.grids_are ∙ length-after_all cs (map grid_of olds) ∙ length-map olds grid_of

-- two runs, one after the other
pub run_append : {T : Type 0} (eq : T → T → Bool) (cs ds : List (Command T)) (olds mids news : List (Layout T)) (rs qs : List (Reply T))
    → IsRun eq cs olds mids rs → IsRun eq ds mids news qs → IsRun eq (cs ++ ds) olds news (rs ++ qs)
run_append eq cs ds olds mids news rs qs a b = record {
  replies_are =
      ap (λ xs. xs ++ qs) a.replies_are
      ∙ ap (λ ys. replies_to eq cs (map grid_of olds) ++ ys) (b.replies_are ∙ ap (replies_to eq ds) a.grids_are)
      ∙ sym (replies_append eq cs ds (map grid_of olds));
  grids_are = b.grids_are ∙ ap (after_all ds) a.grids_are ∙ sym (after_append cs ds (map grid_of olds));
  all_kept = λ i old new in_old in_new.
      let there : i < length mids = omega (arith, slice_get_within olds i old in_old, length-run eq cs olds mids rs a) in
      let mid = get_or mids i old in
      let in_mid = slice_get-get_or mids i old there in
      subst (λ compacted. IsKept compacted old new) (sym (list_any-append (compacts i) cs ds))
      (kept_twice (list_any (compacts i) cs) (list_any (compacts i) ds) old mid new (a.all_kept i old mid in_old in_mid) (b.all_kept i mid new in_mid in_new));
  all_fit = b.all_fit;
}
