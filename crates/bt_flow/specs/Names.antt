-- The names of properties and of tests, as texts write them.
use Rattle.std.specs.Prelude.{ℕ, List, codes}
use Rattle.bt_flow.specs.declared.property.Property.{Property}
use Rattle.bt_flow.specs.declared.property.Property.TheVariants.{Balanced, DrawnEvenly, Unlimited, Full, Fair, DrawnFairly}
use Rattle.bt_flow.specs.declared.judgement.Test.{Test}
use Rattle.bt_flow.specs.declared.judgement.Test.TheVariants as test

-- the name of a property
abbrev pub property_name : Property → List ℕ
property_name Balanced = codes "balanced"
property_name DrawnEvenly = codes "drawn-evenly"
property_name Unlimited = codes "unlimited"
property_name Full = codes "full"
property_name Fair = codes "fair"
property_name DrawnFairly = codes "drawn-fairly"

-- the name of a test: that of a law is the law's
abbrev pub test_name : Test → List ℕ
test_name test.Load = codes "load"
test_name test.Room = codes "room"
test_name test.Range = codes "range"
test_name test.Conserve = codes "conserve"
test_name test.EvenOut = codes "even-out"
test_name test.EvenIn = codes "even-in"
test_name test.PriorOut = codes "prior-out"
test_name test.PriorIn = codes "prior-in"
test_name test.Backing = codes "backing"
test_name test.Input = codes "input"
test_name test.Output = codes "output"
test_name test.Conclusion = codes "kept"
