-- Two texts are one checked specification and one checked client, and so have one answer.
use Rattle.std.proofs.Common.{◌≡◌, ℕ, List, ap, subst, sym, ◌∙◌}
use Rattle.canvas_cli.proofs.Trees.{one_client_tree, one_tree}
use Rattle.canvas_cli.specs.Verdicts.{IsAnswer, IsClient, IsPair, IsSpecification}
use Rattle.canvas_cli.specs.declared.answer.Answer.{Answer}
use Rattle.canvas_cli.specs.declared.command.Command.{Command}
use Rattle.client_model.specs.CheckedForm as client
use Rattle.client_model.specs.CheckedForm.{ClientForm}
use Rattle.client_model.specs.Trees.{client_of}
use Rattle.easl_model.specs.CheckedForm.{form_of}
use Rattle.easl_model.specs.Form.{Form}

-- a text has one checked form
pub forms_one : (text : List ℕ) (f g : Form) → IsSpecification text f → IsSpecification text g → f ≡ g
forms_one text f g first second =
    let tree : first.tree ≡ second.tree = one_tree text first.tree second.tree first.is.spells second.is.spells in
    first.form_is ∙ ap form_of tree ∙ sym second.form_is

pub clients_one : (form : Form) (text : List ℕ) (c d : ClientForm) → IsClient form text c → IsClient form text d → c ≡ d
clients_one form text c d first second =
    let tree : first.tree ≡ second.tree = one_client_tree text first.tree second.tree first.is.spells second.is.spells in
    first.form_is ∙ ap (λ t. client.form_of form (client_of t)) tree ∙ sym second.form_is

-- what is answered for a pair of the texts is answered for each
pub answer_of : (command : Command) (spec text : List ℕ) (f g : Form) (c d : ClientForm) (answer : Answer) → IsSpecification spec f → IsClient f text c
    → IsPair spec text g d → IsAnswer command f c answer → IsAnswer command g d answer
answer_of command spec text f g c d answer first taken pair is =
    let one : f ≡ g = forms_one spec f g first pair.specification in
    let same : c ≡ d = clients_one g text c d (subst (λ h. IsClient h text c) one taken) pair.client_text in
    subst (λ x. IsAnswer command g x answer) same (subst (λ h. IsAnswer command h c answer) one is)
