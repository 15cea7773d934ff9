-- A blueprint has one list of parts.
use Rattle.std.proofs.Common.{◌≡◌, ℕ, List, Ok, sym, ap, subst}
use Rattle.bt_json.proofs.OneRead.{one_read}
use Rattle.bt_entities.specs.Answers.{IsPrioritisedOf}
use Rattle.bt_entities.proofs.OneAnswer.{one_reading}
use Rattle.bt_parts.specs.declared.hand.Priority.{Priority}
use Rattle.bt_parts.specs.declared.part.Part.{Part}
use Rattle.bt_designs.specs.Kept.{AreDrawn}
use Rattle.bt_designs.proofs.InTurns.{same_value}

-- a blueprint has one list of parts
pub one_drawing : (bytes : List ℕ) (parts others : List Part) → AreDrawn bytes parts → AreDrawn bytes others → parts ≡ others
one_drawing bytes parts others (read, is, priorities, are) (again, was, same, were) =
    let first = same_value read again (one_read bytes (Ok read) (Ok again) is was) in
    let second = one_reading read.0 (Ok (parts, priorities)) (Ok (others, same)) are (subst (λ x. IsPrioritisedOf x.0 (Ok (others, same))) (sym first) were) in
    ap (λ (found : List Part × List Priority). found.0) (same_value (parts, priorities) (others, same) second)
