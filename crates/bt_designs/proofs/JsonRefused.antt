-- What is refused of the value at the front of JSON text is refused of the text.
use Rattle.std.proofs.Common.{◌≡◌, ◌⊎◌, ℕ, List, Result, Ok, Err, inl, inr, refl}
use Rattle.bt_json.specs.Json.{Json}
use Rattle.bt_json.specs.Answers.{IsRead}
use Rattle.bt_designs.specs.declared.fault.DesignFault.{DesignFault}
use Rattle.bt_designs.specs.declared.fault.DesignFault.TheVariants.{Memory}
use Rattle.bt_designs.specs.Designs.{IsJsonOf}
use Rattle.bt_designs.specs.Steps.{went_on}

pub refused : {X : Type 0} (IsOf : Json → Result X DesignFault → Type 0) (bytes : List ℕ) (read : Json × ℕ) (fault : DesignFault) → IsRead bytes (Ok read)
    → IsOf read.0 (Err fault) ⊎ (fault ≡ Memory) → IsJsonOf IsOf bytes (Err fault) ⊎ (fault ≡ Memory)
refused IsOf bytes read fault h (inl k) = inl (went_on read h (Err fault, k, refl))
refused IsOf bytes read fault h (inr m) = inr m
