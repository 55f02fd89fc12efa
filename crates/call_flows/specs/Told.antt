-- What the code holds, in the words of the definitions.
use Rattle.call_flows.specs.declared.name.Name.{Name as Coded}
use Rattle.call_flows.specs.declared.name.Name.TheVariants as coded
use Rattle.call_flows.specs.declared.site.Site.{Site}
use Rattle.client_facts.specs.Setting.{IsCall, Setting}
use Rattle.client_model.specs.Codes.{Name, Result, Slot, Static, Variable}
use Rattle.client_steps.specs.States.{Call}

abbrev pub name_told : Coded → Name
name_told (coded.Static number) = Static number
name_told (coded.Variable number) = Variable number
name_told (coded.Slot number) = Slot number
name_told (coded.Result number) = Result number

abbrev pub call_told : Site → Call
call_told s = record { target = s.target; callee = s.callee; args = s.args.now }

-- this procedure call stands in the client
abbrev pub Stands : Setting → Site → Type 0
Stands g s = IsCall g s.procedure s.point (call_told s) s.next
