-- The rectangles of commands.
use Rattle.std.specs.Prelude.{IfSome}
use Rattle.bt_words.specs.declared.command.Command.{Command}
use Rattle.bt_words.specs.declared.command.Command.TheVariants.{Layout, CheckLayout, Smallest, FindSmall, PlaceFormula}
use Rattle.bt_words.specs.Commands.{HasFewCells}
use Rattle.bt_model.specs.Requests.{IsGrid}

-- where the command names a rectangle, it is the grid of a request, and one of few cells where each one is searched
abbrev pub HasGrid : Command → Type 0
HasGrid (Layout rect tier learnt) = IsGrid rect
HasGrid (CheckLayout rect tier) = IsGrid rect
HasGrid (Smallest first most tier learnt) = IsGrid most × HasFewCells most
HasGrid (FindSmall most tier sides learnt) = IfSome most IsGrid
HasGrid (PlaceFormula rect tier) = IsGrid rect
HasGrid other = Unit {0}
