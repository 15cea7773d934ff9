use Rattle.std.proofs.Common.{◌≡◌, ◌<◌, false}
use Rattle.bt_facts.specs.declared.fact.Content.{Content}
use Rattle.bt_facts.specs.declared.fact.Fact.TheVariants.{Kind}
use Rattle.bt_place.specs.Numbering.{content_number}
use Rattle.bt_place.specs.inner.Told.{reading_of}
use Rattle.bt_place.proofs.reading.Reading.content.Given as goal

abbrev pub invariant-loop-number : goal.invariant-loop-number
invariant-loop-number l = (content : Content) → content_number content < l.number → reading_of l.self (Kind l.cell content) ≡ false
