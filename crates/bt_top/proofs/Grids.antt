-- The rectangle of a command is the grid of a request.
use Rattle.std.proofs.Common.{ℕ, List}
use Rattle.bt_words.specs.declared.command.Command.{Command}
use Rattle.bt_words.specs.declared.command.Command.TheVariants.{FlowCheck, Recover, Check, Decide, Make, Layout, CheckLayout, Smallest, FindSmall, FlowFormula, PlaceFormula, Same, CheckSame, Build}
use Rattle.bt_words.specs.Commands.{IsCommand}
use Rattle.bt_words.proofs.OneCommand.{grid_to_lay, grid_to_check, grid_to_search, few_to_search, grid_to_find, grid_of_formula}
use Rattle.bt_top.specs.inner.Grids.{HasGrid}

pub has_grid : (command : Command) (words : List (List ℕ)) → IsCommand command words → HasGrid command
has_grid (FlowCheck p) words is = tt
has_grid Recover words is = tt
has_grid (Check p) words is = tt
has_grid (Decide p limits) words is = tt
has_grid (Make family order limits) words is = tt
has_grid (Layout rect tier learnt) words is = grid_to_lay rect tier learnt words is
has_grid (CheckLayout rect tier) words is = grid_to_check rect tier words is
has_grid (Smallest first most tier learnt) words is = (grid_to_search first most tier learnt words is, few_to_search first most tier learnt words is)
has_grid (FindSmall most tier sides learnt) words is = grid_to_find most tier sides learnt words is
has_grid (FlowFormula p) words is = tt
has_grid (PlaceFormula rect tier) words is = grid_of_formula rect tier words is
has_grid (Same limits) words is = tt
has_grid CheckSame words is = tt
has_grid (Build wish inputs outputs limits text) words is = tt
