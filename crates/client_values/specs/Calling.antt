-- What is called, and what takes its arguments.
use Rattle.std.specs.Prelude.{ℕ, List, Option, Some, None, ◌++◌}
use Rattle.client_model.specs.declared.tree.Component.{Component}
use Rattle.client_model.specs.BodyFaults.{differs, faults_of_read, no_method, opaque_receiver}
use Rattle.client_model.specs.Contexts.{Context}
use Rattle.client_model.specs.Faults.{Fault}
use Rattle.client_model.specs.Settings.{Callee, Header, Kind, Setting, Procedure, kind_of_word}
use Rattle.easl_model.specs.declared.tree.Word.{Word}

-- the procedure of this number
abbrev pub callee_by_header : ℕ → Header → Callee
callee_by_header number h = record { called = Procedure number; params = h.params; result = h.result }

-- of one argument, and what takes it
abbrev pub faults_of_argument : Setting → Context → Option Kind → Word → List Fault
faults_of_argument s c None w = faults_of_read s c w
faults_of_argument s c (Some p) w = differs w.place p (kind_of_word s c.scope w) ++ faults_of_read s c w

-- of a method's receiver and name
abbrev pub faults_of_receiver : Setting → Context → Component → List Fault
faults_of_receiver s c x =
    let receiver = kind_of_word s c.scope x.receiver
    in faults_of_read s c x.receiver ++ opaque_receiver x.receiver.place receiver ++ no_method s receiver x.method
