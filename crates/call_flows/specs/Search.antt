-- What is looked for at a procedure call.
use Rattle.call_flows.specs.Told.{call_told}
use Rattle.call_flows.specs.declared.search.Wanted.{Wanted}
use Rattle.call_flows.specs.declared.search.Wanted.TheVariants.{Entry, Return}
use Rattle.call_flows.specs.declared.site.Site.{Site}
use Rattle.client_facts.specs.Facts.{IsFact}
use Rattle.client_facts.specs.Over.{EntersAt, ReturnsAt}
use Rattle.client_facts.specs.Setting.{Setting}
use Rattle.client_facts.specs.declared.fact.Fact.{Fact}

abbrev pub IsWanted : Setting → Site → Wanted → Fact → Type 0
IsWanted g s (Entry before) f = EntersAt g s.procedure s.point (call_told s) before.now f
IsWanted g s (Return before entry exit) f =
    ReturnsAt g s.procedure s.point (call_told s) before.now entry.now exit.now f × IsFact g s.procedure s.next f
