-- Reading a specification is spelling it, and a text has one answer.
use Rattle.std.proofs.Common.{ℕ, suc, List, length, Ok, Err, Result, arith}
use Rattle.cv_lex.specs.Form as lex
use Rattle.cv_lex.specs.declared.fault.TextFault.{TextFault}
use Rattle.easl_model.specs.{IsSpec, OneTree, Shallow}
use Rattle.easl_model.specs.declared.place.Place.{Place}
use Rattle.easl_model.specs.declared.token.Token.{Token}
use Rattle.easl_model.specs.declared.token.Tokens.{Tokens}
use Rattle.easl_model.specs.declared.tree.Spec.{Spec}
use Rattle.cv_read.specs.{FindsTree, GivesWhole, Nests, OneAnswer, placed, whole_at}
use Rattle.cv_read.specs.Answers.{Answers}
use Rattle.cv_read.specs.declared.fault.ReadFault.{ReadFault}
use Rattle.cv_read.proofs.Answered as answered
use Rattle.easl_parser.specs.Reading.{spec_at}
use Rattle.easl_parser.proofs.MemberLaws.{SpecGoes, spec_within}

-- at most one tree is spelled
pub one_tree : OneTree
one_tree text end ts =
    let within = spec_within text (length ts) end in
    answered.one_spelling (spec_at text (length ts) end) (IsSpec text end) SpecGoes (suc (suc (length ts))) ts (within.reads) (within.bound) (omega arith)

-- from the reading to what the grammar says
pub found : (text : List ℕ) (end : Place) (ts : List Token) (r : Result Spec ReadFault) → Shallow ts
    → GivesWhole r (whole_at (spec_at text 63 end) ts) → FindsTree IsSpec text end ts r
found = answered.found IsSpec (λ text. spec_at text 63) SpecGoes (λ text end. (spec_within text 63 end).reads) (λ text end. (spec_within text 63 end).bound)

pub too_deep : (text : List ℕ) (end : Place) (ts : List Token) (e : ReadFault) → Nests ts (Err e) → FindsTree IsSpec text end ts (Err e)
too_deep = answered.too_deep IsSpec

-- from the tokens to the text
pub no_tokens : (text : List ℕ) (e : TextFault) → lex.Answers text (Err e) → Answers IsSpec text (Err e)
no_tokens = answered.no_tokens IsSpec

pub tree_answers : (text : List ℕ) (x : Tokens) (s : Spec) → lex.Answers text (Ok x) → FindsTree IsSpec text x.end x.list (Ok s) → Answers IsSpec text (Ok s)
tree_answers = answered.tree_answers IsSpec

pub fault_answers : (text : List ℕ) (x : Tokens) (e : ReadFault) → lex.Answers text (Ok x) → FindsTree IsSpec text x.end x.list (Err e)
    → Answers IsSpec text (Err (placed x e))
fault_answers = answered.fault_answers IsSpec

pub one_spelled : OneAnswer IsSpec
one_spelled = answered.one_answer IsSpec (λ text. spec_at text 63) SpecGoes (λ text end. (spec_within text 63 end).reads) (λ text end. (spec_within text 63 end).bound)
