use Rattle.std.proofs.Common.{refl}
use Rattle.bt_flow.proofs.property.Property.name.Goals as goal

pub returns-in-Balanced : goal.returns-in-Balanced
returns-in-Balanced c = rw c.in-Balanced.is refl

pub returns-in-DrawnEvenly : goal.returns-in-DrawnEvenly
returns-in-DrawnEvenly c = rw c.in-DrawnEvenly.is refl

pub returns-in-Unlimited : goal.returns-in-Unlimited
returns-in-Unlimited c = rw c.in-Unlimited.is refl

pub returns-in-Full : goal.returns-in-Full
returns-in-Full c = rw c.in-Full.is refl

pub returns-in-Fair : goal.returns-in-Fair
returns-in-Fair c = rw c.in-Fair.is refl

pub returns-in-DrawnFairly : goal.returns-in-DrawnFairly
returns-in-DrawnFairly c = rw c.in-DrawnFairly.is refl
