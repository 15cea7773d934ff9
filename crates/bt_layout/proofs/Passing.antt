-- One grid after another.
use Rattle.std.proofs.Common.{◌≡◌, ℕ, suc, ◌+◌, ◌<◌, List, [], ◌∷◌, ◌++◌, length, get_or, take, drop, sym, ◌∙◌, ap, subst, arith, take-append-drop}
use Rattle.std.specs.List.{All}
use Rattle.std.specs.declared.option.Option.{Option}
use Rattle.std.proofs.Math.Seq.{drop-cons}
use Rattle.std.proofs.lemmas.List.{map-append, take_more}
use Rattle.std.proofs.lemmas.List.Elements.{All-nil, All-push}
use Rattle.bt_parts.specs.declared.part.Rect.{Rect}
use Rattle.bt_parts.specs.Cells.{IsInside}
use Rattle.bt_net.specs.declared.network.Demand.{Demand}
use Rattle.bt_net.specs.declared.network.Demand.TheVariants as demand
use Rattle.bt_log.specs.declared.log.Log.{Log}
use Rattle.bt_model.specs.Requests.{LayoutRequest, IsRequest, IsPinnedInside, blocked}
use Rattle.bt_layout.specs.inner.Ends.{IsSought}
use Rattle.bt_grids.specs.declared.outcome.Layout.TheVariants as layout
use Rattle.bt_grids.specs.declared.outcome.RuledOut.{RuledOut}
use Rattle.bt_grids.specs.Grids.{AreGridsFrom, IsWithin}
use Rattle.bt_grids.specs.Asked.{NamesNoCell, NamesNoCells, request_on}
use Rattle.bt_layout.specs.Smallest.{IsFirstLeft, IsRuledOut}
use Rattle.bt_layout.specs.inner.Passing.{ArePassed}

-- a line that names no cell names none outside
inside : (grid : Rect) (d : Demand) → NamesNoCell d → IsPinnedInside grid d
inside grid (demand.Pin pin) h = absurd h
inside grid (demand.Side side) h = tt
inside grid (demand.Row row) h = tt

-- a request that names no cells is asked of each grid within its own as of that
pub asked_on : (r : LayoutRequest) (grid : Rect) → IsRequest r → NamesNoCells r → IsWithin r.rect grid → IsRequest (request_on r grid)
asked_on r grid is none within = record {
  net = is.net;
  grid = record {
    some_width = within.some_width;
    few_across = let a = within.few_across in let b = is.grid.few_across in omega (arith, a, b);
    some_height = within.some_height;
    few_down = let a = within.few_down in let b = is.grid.few_down in omega (arith, a, b);
  };
  few_edges = is.few_edges;
  few_splitters = is.few_splitters;
  caps = is.caps;
  ends = is.ends;
  pins_inside = λ i d lt. inside grid (get_or r.demands i d) (none.demands i d lt);
  demands_apart = is.demands_apart;
  blocks_inside = subst (All (λ block. IsInside grid (blocked block))) (sym none.blocks) (All-nil _);
  blocks_apart = is.blocks_apart;
  blocks_unpinned = is.blocks_unpinned;
}

module _ (r : LayoutRequest) (learnt : ℕ) (grids : List Rect) where
  module _ (place : ℕ) (earlier : List RuledOut) (are : ArePassed r learnt grids place earlier) (grid : Rect) (within : place < length grids)
      (at : grid ≡ get_or grids place grid) where
    -- one grid more is ruled out
    pub one_passed : (log : Log) → IsSought (request_on r grid) learnt (layout.Nowhere log)
        → ArePassed r learnt grids (place + 1) (earlier ++ record { grid = grid; log = log } ∷ [])
    one_passed log is =
        let one : RuledOut = record { grid = grid; log = log } in
        record {
          first = map-append (λ (x : RuledOut). x.grid) earlier (one ∷ []) ∙ ap (λ gs. gs ++ grid ∷ []) are.first
              ∙ ap (λ g. take place grids ++ g ∷ []) at ∙ sym (take_more grids place grid within);
          ruled_out = All-push (IsRuledOut r learnt) earlier one are.ruled_out (record { none = is.0; refuted = is.1; few = is.2; tight = is.3 });
        }

    -- the grids before this one are ruled out
    pub first_left : (first : Option Rect) → AreGridsFrom first r.rect grids → IsFirstLeft first r learnt earlier grid
    first_left first all = record {
      later = drop (suc place) grids;
      in_order = subst (AreGridsFrom first r.rect) (sym (
          ap (λ gs. gs ++ grid ∷ drop (suc place) grids) are.first ∙ ap (λ g. take place grids ++ g ∷ drop (suc place) grids) at
          ∙ ap (λ gs. take place grids ++ gs) (sym (drop-cons grids place grid within)) ∙ take-append-drop place grids)) all;
      ruled_out = are.ruled_out;
    }
