-- A script that is run as it is read: what was run so far, and what one more line adds.
use Rattle.std.proofs.Common.{◌≡◌, ℕ, eqb, List, [], ◌∷◌, ◌++◌, map, All, refl, sym, ap, subst, ◌∙◌, append_assoc}
use Rattle.std.proofs.lemmas.List.{append-nil, map-append}
use Rattle.std.proofs.lemmas.List.Elements.{All-push}
use Rattle.std.proofs.lemmas.Option.{same_Some}
use Rattle.image_model.specs.Layout.{Layout, Fits, SameOutside}
use Rattle.image_model.proofs.Places.{outside_refl}
use Rattle.image_model.specs.Grid.{grid_of}
use Rattle.image_commands.specs.declared.commands.Command.{Command}
use Rattle.image_commands.specs.declared.commands.Reply.{Reply}
use Rattle.imgref_replay.specs.Run.{replies_to, IsRun}
use Rattle.script_text.specs.Line.{Order, order_of}
use Rattle.script_text.specs.Script.{IsRead}
use Rattle.script_text.specs.Output.{reply_text, ended_line, replies_text}
use Rattle.script_text.specs.declared.script.Script.{Script}

-- the lines that were read are these images and commands, and the commands were run. Before the first command the images are as they were read
pub record IsSoFar (lines : List (List ℕ)) (script : Script) (layouts : List (Layout ℕ)) (text : List ℕ) : Type 0 where
  pub images : List (Layout ℕ)
  pub commands : List (Command ℕ)
  pub replies : List (Reply ℕ)
  pub read : IsRead script lines images (map order_of commands)
  pub run : IsRun eqb commands images layouts replies
  pub first : commands ≡ [] → layouts ≡ images
  pub told : text ≡ replies_text replies

-- no command leaves all as it is
still : (layouts : List (Layout ℕ)) → All Fits layouts → IsRun eqb [] layouts layouts []
still layouts fit = record {
  replies_are = refl;
  grids_are = refl;
  all_kept = λ i old new in_old in_new. subst (SameOutside old) (same_Some old new (sym in_old ∙ in_new)) (outside_refl old);
  all_fit = fit;
}

none_mapped : (commands : List (Command ℕ)) → map order_of commands ≡ [] → commands ≡ []
none_mapped [] e = refl
none_mapped (c ∷ commands) e = absurd cc

-- the next line is an image
pub image_read : (lines : List (List ℕ)) (script next : Script) (layouts : List (Layout ℕ)) (text : List ℕ) (image : Layout ℕ) → IsSoFar lines script layouts text
    → ((images : List (Layout ℕ)) (orders : List Order) → IsRead script lines images orders → (orders ≡ []) × IsRead next lines (images ++ image ∷ []) []) → Fits image
    → IsSoFar lines next (layouts ++ image ∷ []) text
image_read lines script next layouts text image so reads fits =
    let on = reads so.images (map order_of so.commands) so.read in
    let none : so.commands ≡ [] = none_mapped so.commands on.0 in
    let silent : so.replies ≡ [] = so.run.replies_are ∙ ap (λ cs. replies_to eqb cs (map grid_of so.images)) none in
    record {
      images = layouts ++ image ∷ [];
      commands = [];
      replies = [];
      read = subst (λ is. IsRead next lines (is ++ image ∷ []) []) (sym (so.first none)) on.1;
      run = still (layouts ++ image ∷ []) (All-push Fits layouts image so.run.all_fit fits);
      first = λ _. refl;
      told = so.told ∙ ap replies_text silent;
    }

replies_more : (replies : List (Reply ℕ)) (reply : Reply ℕ) → replies_text (replies ++ reply ∷ []) ≡ replies_text replies ++ ended_line (reply_text reply)
replies_more [] reply = append-nil (ended_line (reply_text reply))
replies_more (r ∷ replies) reply =
    ap (λ (l : List ℕ). ended_line (reply_text r) ++ l) (replies_more replies reply) ∙ sym (append_assoc (ended_line (reply_text r)) (replies_text replies) (ended_line (reply_text reply)))

not_nothing : (commands : List (Command ℕ)) (c : Command ℕ) → commands ++ c ∷ [] ≡ [] → ⊥
not_nothing [] c e = cc
not_nothing (d ∷ commands) c e = cc

-- the next line is a command, which is run
pub command_run : (lines : List (List ℕ)) (script next : Script) (layouts news : List (Layout ℕ)) (text more : List ℕ) (command : Command ℕ) (reply : Reply ℕ) → IsSoFar lines script layouts text
    → ((images : List (Layout ℕ)) (orders : List Order) → IsRead script lines images orders → IsRead next lines images (orders ++ order_of command ∷ []))
    → ((before : List (Command ℕ)) (olds : List (Layout ℕ)) (replies : List (Reply ℕ)) → IsRun eqb before olds layouts replies → IsRun eqb (before ++ command ∷ []) olds news (replies ++ reply ∷ []))
    → more ≡ text ++ ended_line (reply_text reply) → IsSoFar lines next news more
command_run lines script next layouts news text more command reply so reads runs added = record {
  images = so.images;
  commands = so.commands ++ command ∷ [];
  replies = so.replies ++ reply ∷ [];
  read = subst (IsRead next lines so.images) (sym (map-append order_of so.commands (command ∷ []))) (reads so.images (map order_of so.commands) so.read);
  run = runs so.commands so.images so.replies so.run;
  first = λ none. absurd (not_nothing so.commands command none);
  told = added ∙ ap (λ t. t ++ ended_line (reply_text reply)) so.told ∙ sym (replies_more so.replies reply);
}
