-- What `build` answers.
use Rattle.std.specs.Prelude.{◌≡◌, ℕ, ◌⊎◌, Ok}
use Rattle.bt_net.specs.Network.{Network}
use Rattle.bt_gen.specs.declared.wish.Wish.{Wish}
use Rattle.bt_decide.specs.Building.{IsBuilt}
use Rattle.bt_words.specs.declared.command.BuiltText.{BuiltText}
use Rattle.bt_print.specs.declared.answer.Answer.TheVariants as answer
use Rattle.bt_print.specs.Replies.{Reply}

-- what `build` answers: a network of so many inputs and outputs whose edges have the cap 1 and that has each wished
-- property; or that none is found, which says nothing of whether there is one
abbrev pub IsBuiltFor : Wish → ℕ → ℕ → BuiltText → Reply → Type 0
IsBuiltFor wish inputs outputs text reply =
    ((n : Network) × IsBuilt wish inputs outputs n × (reply ≡ Ok (answer.Built n text))) ⊎ (reply ≡ Ok answer.NotFound)
