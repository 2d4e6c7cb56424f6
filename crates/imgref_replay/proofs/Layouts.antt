-- What is done to lists of grids that agree leaves lists that agree, with the same replies: whatever a command means, for it sees the scene alone, and that is the same of both.
use Rattle.std.proofs.Common.{◌≡◌, ℕ, zero, suc, Bool, List, [], ◌∷◌, length, set, Some, None, Option, refl, ap, ◌∙◌, subst, arith}
use Rattle.std.specs.Option.{option_map_or}
use Rattle.std.specs.Cmp.{IsEquivalence}
use Rattle.image_model.specs.Grid.{Grid, Agree, AlikePixels}
use Rattle.image_model.specs.Windows.{window_view}
use Rattle.image_model.proofs.Agreement.{agree_grid, agree_view, agree_patch}
use Rattle.image_commands.specs.PlaceTests.{are_alike_pixels}
use Rattle.image_commands.specs.Commands.{grid_at, sizes_of, window_named, view_named, Source, given, old, pixel_from, scene_of, Answer, shown, told, reply_of, Write, written, meaning}
use Rattle.imgref_replay.specs.Step.{first_fault, fault_of, answer_to, effect_of, reply_to, after}
use Rattle.imgref_replay.specs.Run.{replies_to, after_all}
use Rattle.imgref_replay.specs.Layouts.{GridsAgree, AlikeReply, RepliesAgree}
use Rattle.image_commands.specs.declared.commands.Command.{Command}
use Rattle.image_commands.specs.declared.commands.Refusal.{Refusal}
use Rattle.image_commands.specs.declared.commands.Reply.{Reply}
use Rattle.image_commands.specs.declared.commands.Reply.TheVariants.{Pixel, Done, Refused}

module _ {T : Type 0} (eq : T → T → Bool) where
  -- ---- one grid of each

  agree_at : (gs hs : List (Grid T)) (i : ℕ) → GridsAgree eq gs hs → Agree eq (grid_at gs i) (grid_at hs i)
  agree_at [] [] i a = agree_grid eq 0 0 0 0 (λ _ _. None) (λ _ _. None) refl refl (λ _ _ _ _. tt)
  agree_at (g ∷ gs) (h ∷ hs) zero a = a.0
  agree_at (g ∷ gs) (h ∷ hs) (suc i) a = agree_at gs hs i a.1
  agree_at _ _ i a = absurd a

  agree_set : (gs hs : List (Grid T)) (i : ℕ) (g h : Grid T) → GridsAgree eq gs hs → Agree eq g h → GridsAgree eq (set gs i g) (set hs i h)
  agree_set [] [] i g h a b = tt
  agree_set (x ∷ gs) (y ∷ hs) zero g h a b = (b, a.1)
  agree_set (x ∷ gs) (y ∷ hs) (suc i) g h a b = (a.0, agree_set gs hs i g h a.1 b)
  agree_set _ _ i g h a b = absurd a

  same_length : (gs hs : List (Grid T)) → GridsAgree eq gs hs → length gs ≡ length hs
  same_length [] [] a = refl
  same_length (g ∷ gs) (h ∷ hs) a = ap suc (same_length gs hs a.1)
  same_length _ _ a = absurd a

  -- ---- pixels and replies

  shown_alike : (o p : Option T) → AlikePixels eq o p → AlikeReply eq (option_map_or (λ pixel. Pixel pixel) o Done) (option_map_or (λ pixel. Pixel pixel) p Done)
  shown_alike None None h = refl
  shown_alike (Some x) (Some y) h = h
  shown_alike _ _ h = absurd h

  refused_alike : (o : Option Refusal) (r q : Reply T) → AlikeReply eq r q → AlikeReply eq (option_map_or (λ refusal. Refused refusal) o r) (option_map_or (λ refusal. Refused refusal) o q)
  refused_alike None r q h = h
  refused_alike (Some refusal) r q h = refl

  module _ (laws : IsEquivalence eq) where
    same_reply : (r : Reply T) → AlikeReply eq r r
    same_reply (Pixel a) = laws.refl a
    same_reply _ = refl

    -- whether two pixels are equal is the same where each is alike to another
    same_test : (o p q r : Option T) → AlikePixels eq o p → AlikePixels eq q r → are_alike_pixels eq o q ≡ are_alike_pixels eq p r
    same_test (Some a) (Some b) (Some c) (Some d) h k = laws.congr a b c h ∙ laws.symm b c ∙ laws.congr c d b k ∙ laws.symm d b
    same_test _ _ _ _ h k = grind arith

    module _ (gs hs : List (Grid T)) (a : GridsAgree eq gs hs) where
      -- ---- the scene is the same

      same_sizes : sizes_of gs ≡ sizes_of hs
      same_sizes = grind (arith, agree_at, same_length)

      alike_pixel : (source : Source T) → AlikePixels eq (pixel_from source gs) (pixel_from source hs)
      alike_pixel (given value) = laws.refl value
      alike_pixel (old spot x y) =
          subst (λ sizes. AlikePixels eq ((view_named spot gs).pixel x y) ((window_view (grid_at hs spot.image) (window_named spot sizes)).pixel x y)) same_sizes
          (let w = window_named spot (sizes_of gs) in (agree_view eq (grid_at gs spot.image) (grid_at hs spot.image) w.left w.top w.width w.height (agree_at gs hs spot.image a)).alike x y)

      same_scene : scene_of eq gs ≡ scene_of eq hs
      same_scene = grind (arith, same_test, same_sizes, alike_pixel)

      -- ---- one command

      same_fault : (command : Command T) → fault_of command gs ≡ fault_of command hs
      same_fault command = ap (λ sizes. first_fault ((meaning command).faults sizes)) same_sizes

      alike_of : (answer : Answer T) → AlikeReply eq (reply_of answer gs) (reply_of answer hs)
      alike_of (shown source) = shown_alike (pixel_from source gs) (pixel_from source hs) (alike_pixel source)
      alike_of (told reply) = same_reply reply

      alike_answer : (command : Command T) → AlikeReply eq (answer_to eq command gs) (answer_to eq command hs)
      alike_answer command = subst (λ scene. AlikeReply eq (answer_to eq command gs) (reply_of ((meaning command).answer scene) hs)) same_scene (alike_of ((meaning command).answer (scene_of eq gs)))

      agree_written : (write : Write T) → GridsAgree eq (written write gs) (written write hs)
      agree_written write =
          let i = write.area.image in
          let w = write.area.window in
          let one = agree_at gs hs i a in
          let pixels = agree_grid eq w.width w.width w.height w.height _ _ refl refl (λ x y _ _. alike_pixel (write.pixel x y)) in
          agree_set gs hs i _ _ a (agree_patch eq (grid_at gs i) (grid_at hs i) _ _ w.left w.top one pixels)

      agree_some : (write : Option (Write T)) → GridsAgree eq (option_map_or (λ w. written w gs) write gs) (option_map_or (λ w. written w hs) write hs)
      agree_some None = a
      agree_some (Some write) = agree_written write

      agree_effect : (command : Command T) → GridsAgree eq (effect_of command gs) (effect_of command hs)
      agree_effect command = subst (λ sizes. GridsAgree eq (effect_of command gs) (option_map_or (λ w. written w hs) ((meaning command).write sizes) hs)) same_sizes (agree_some ((meaning command).write (sizes_of gs)))

      agree_or : (o : Option Refusal) (ks ls : List (Grid T)) → GridsAgree eq ks ls → GridsAgree eq (option_map_or (λ _. gs) o ks) (option_map_or (λ _. hs) o ls)
      agree_or None ks ls b = b
      agree_or (Some refusal) ks ls b = a

      alike_reply : (command : Command T) → AlikeReply eq (reply_to eq command gs) (reply_to eq command hs)
      alike_reply command = grind (arith, refused_alike, same_fault, alike_answer)

      agree_after : (command : Command T) → GridsAgree eq (after command gs) (after command hs)
      agree_after command = grind (arith, same_fault, agree_effect, agree_or)

    -- ---- a list of commands

    pub replies_agree : (commands : List (Command T)) (gs hs : List (Grid T)) → GridsAgree eq gs hs → RepliesAgree eq (replies_to eq commands gs) (replies_to eq commands hs)
    replies_agree [] gs hs a = tt
    replies_agree (command ∷ commands) gs hs a = (alike_reply gs hs a command, replies_agree commands (after command gs) (after command hs) (agree_after gs hs a command))

    pub grids_agree : (commands : List (Command T)) (gs hs : List (Grid T)) → GridsAgree eq gs hs → GridsAgree eq (after_all commands gs) (after_all commands hs)
    grids_agree [] gs hs a = a
    grids_agree (command ∷ commands) gs hs a = grids_agree commands (after command gs) (after command hs) (agree_after gs hs a command)
