use Rattle.std.proofs.Common.{take}
use Rattle.bt_grids.specs.inner.Spans.{Encloses, IsNear, IsSpanOf}
use Rattle.bt_grids.proofs.span.spanned.Given as goal

-- the span of the parts so far encloses these, and lies in each rectangle that holds all of them
abbrev pub invariant-loop-part : goal.invariant-loop-part
invariant-loop-part l = record {
  within : IsSpanOf l.parts l.span;
  encloses : Encloses l.span (take l.part-index l.parts);
  least : IsNear l.span.least;
  greatest : IsNear l.span.greatest;
}
