use Rattle.std.proofs.Common.{subst, sym, inl}
use Rattle.std.proofs.lemmas.Option.{MatchOption-at_some, MatchOption-at_none}
use Rattle.bt_model.specs.Clean.{IsOnRing}
use Rattle.bt_model.specs.Orderly.{Never}
use Rattle.bt_recover.specs.Recovered.{IsFirst}
use Rattle.bt_recover.specs.inner.Refused.{IsRefused}
use Rattle.bt_recover.proofs.CleanLemmas.{all_paired, orderly, clean, pair_refused}
use Rattle.bt_recover.proofs.clean.clean_pairs.Goals as goal

pub returns-in-Err-clause-refused : goal.returns-in-Err-clause-refused
returns-in-Err-clause-refused c = subst (λ fault. IsRefused c.args.grid.now fault) (sym c.fault_of.ensures) (pair_refused c.args.grid.now c.in-Err.fault c.in-Err.ensures.right)

pub returns-in-Some-clause-refused : goal.returns-in-Some-clause-refused
returns-in-Some-clause-refused c = inl (all_paired c.args.grid.now _ c.in-Ok.ensures.right, c.in-Some.ensures.none)

pub returns-in-Some-first_blocked-clause-refused : goal.returns-in-Some-first_blocked-clause-refused
returns-in-Some-first_blocked-clause-refused c = inl (all_paired c.args.grid.now _ c.in-Ok.ensures.right, c.in_default.ensures.none, c.in-Some-first_blocked.ensures)

pub first_on_ring-requires-clause-orderly : goal.first_on_ring-requires-clause-orderly
first_on_ring-requires-clause-orderly c =
    orderly c.args.grid.now _ c.in_default.ensures.well_placed c.in-Ok.ensures.right c.in_default.ensures.none c.in_default-first_blocked.ensures

pub returns-in-Some-2-clause-refused : goal.returns-in-Some-2-clause-refused
returns-in-Some-2-clause-refused c = inl (
  orderly c.args.grid.now _ c.in_default.ensures.well_placed c.in-Ok.ensures.right c.in_default.ensures.none c.in_default-first_blocked.ensures,
  MatchOption-at_some (Never (IsOnRing c.args.grid.now)) (IsFirst (IsOnRing c.args.grid.now)) c.in-Some-2.i c.in-Some-2.is c.in_ok-i.ensures,
)

pub returns-in-None-clause-clean : goal.returns-in-None-clause-clean
returns-in-None-clause-clean c =
    clean c.args.grid.now
    (orderly c.args.grid.now _ c.in_default.ensures.well_placed c.in-Ok.ensures.right c.in_default.ensures.none c.in_default-first_blocked.ensures)
    (MatchOption-at_none (Never (IsOnRing c.args.grid.now)) (IsFirst (IsOnRing c.args.grid.now)) c.in-None.is c.in_ok-i.ensures)
