-- What a search for the least grid finds is found again in what is written of it.
use Rattle.std.proofs.Common.{ℕ, List, Result, Ok, Err}
use Rattle.std.specs.Global.{Vec}
use Rattle.std.specs.Prelude.{IfOk}
use Rattle.std.specs.declared.alloc.AllocError.{AllocError}
use Rattle.std.specs.declared.option.Option.{Option}
use Rattle.bt_parts.specs.declared.hand.Priority.{Priority}
use Rattle.bt_parts.specs.declared.part.Part.{Part}
use Rattle.bt_parts.specs.declared.part.Rect.{Rect}
use Rattle.bt_model.specs.Laying.{LaysPreferring}
use Rattle.bt_model.specs.Requests.{LayoutRequest, IsRequest}
use Rattle.bt_entities.specs.ReadBack.{IsReadBack, SplittersPrefer}
use Rattle.bt_layout.proofs.Written.{laid_is_read_back}
use Rattle.bt_grids.specs.declared.outcome.RuledOut.{RuledOut}
use Rattle.bt_grids.specs.declared.outcome.Smallest.TheVariants.{Found}
use Rattle.bt_grids.specs.Asked.{NamesNoCells, request_on}
use Rattle.bt_layout.specs.Smallest.{IsSmallest}
use Rattle.bt_layout.proofs.Passed.{left_within}
use Rattle.bt_layout.proofs.Passing.{asked_on}

module _ (first : Option Rect) (r : LayoutRequest) (learnt : ℕ) (earlier : Vec RuledOut) (grid : Rect) (parts : Vec Part) (is : IsRequest r) (none : NamesNoCells r)
    (h : IsSmallest first r learnt (Found earlier grid parts)) where
  pub found_asked : IsRequest (request_on r grid)
  found_asked = asked_on r grid is none (left_within first r learnt earlier.items grid h.0)

  pub found_again : (priorities : List Priority) → SplittersPrefer parts.items priorities → IsReadBack parts.items priorities
  found_again priorities may = laid_is_read_back (request_on r grid) parts.items priorities found_asked h.3 h.1 may

  -- so what priorities of the parts are told of is right to say
  pub found_told : (told : Result (Vec Priority) AllocError) → IfOk told (λ priorities. LaysPreferring parts.items priorities.items (request_on r grid))
      → IfOk told (λ priorities. SplittersPrefer parts.items priorities.items)
      → IfOk told (λ priorities. LaysPreferring parts.items priorities.items (request_on r grid) × IsReadBack parts.items priorities.items)
  found_told (Ok priorities) lays may = (lays, found_again priorities.items may)
  found_told (Err fault) lays may = lays
