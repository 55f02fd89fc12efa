-- Reading a client is spelling it, and a text has one answer.
use Rattle.std.proofs.Common.{ℕ, suc, List, length, Ok, Err, Result, arith}
use Rattle.cv_lex.specs.Form as lex
use Rattle.cv_lex.specs.declared.fault.TextFault.{TextFault}
use Rattle.easl_model.specs.Brackets.{Shallow}
use Rattle.easl_model.specs.declared.place.Place.{Place}
use Rattle.easl_model.specs.declared.token.Token.{Token}
use Rattle.easl_model.specs.declared.token.Tokens.{Tokens}
use Rattle.client_model.specs.Grammar.{IsClient}
use Rattle.client_model.specs.Spelling.{OneClient}
use Rattle.client_model.specs.declared.tree.Client.{Client}
use Rattle.cv_read.specs.Answers.{Answers, OneAnswer, FindsTree}
use Rattle.cv_read.specs.Faults.{placed, Nests}
use Rattle.cv_read.specs.Read.{GivesWhole, whole_at}
use Rattle.cv_read.specs.declared.fault.ReadFault.{ReadFault}
use Rattle.cv_read.proofs.Answered as answered
use Rattle.client_parser.specs.Reading.{client_at}
use Rattle.client_parser.proofs.ItemLaws.{ClientGoes, client_within}

-- at most one client is spelled
pub one_client : OneClient
one_client text end ts =
    let within = client_within text (length ts) end in
    answered.one_spelling (client_at text (length ts) end) (IsClient text end) ClientGoes (suc (length ts)) ts within.reads within.bound (omega arith)

-- from the reading to what the grammar says
pub found : (text : List ℕ) (end : Place) (ts : List Token) (r : Result Client ReadFault) → Shallow ts → GivesWhole r (whole_at (client_at text 64 end) ts)
    → FindsTree IsClient text end ts r
found = answered.found IsClient (λ text. client_at text 64) ClientGoes (λ text end. (client_within text 64 end).reads)
    (λ text end. (client_within text 64 end).bound)

pub too_deep : (text : List ℕ) (end : Place) (ts : List Token) (e : ReadFault) → Nests ts (Err e) → FindsTree IsClient text end ts (Err e)
too_deep = answered.too_deep IsClient

-- from the tokens to the text
pub no_tokens : (text : List ℕ) (e : TextFault) → lex.Answers text (Err e) → Answers IsClient text (Err e)
no_tokens = answered.no_tokens IsClient

pub tree_answers : (text : List ℕ) (x : Tokens) (c : Client) → lex.Answers text (Ok x) → FindsTree IsClient text x.end x.list (Ok c) → Answers IsClient text (Ok c)
tree_answers = answered.tree_answers IsClient

pub fault_answers : (text : List ℕ) (x : Tokens) (e : ReadFault) → lex.Answers text (Ok x) → FindsTree IsClient text x.end x.list (Err e)
    → Answers IsClient text (Err (placed x e))
fault_answers = answered.fault_answers IsClient

pub one_spelled : OneAnswer IsClient
one_spelled = answered.one_answer IsClient (λ text. client_at text 64) ClientGoes (λ text end. (client_within text 64 end).reads)
    (λ text end. (client_within text 64 end).bound)
