-- What a question comes to: its tree, term list, configurations, care list and disjuncts, or why it has no reply.
use Rattle.std.specs.Prelude.{◌≡◌, ◌≢◌, ◌⊎◌, ℕ, ◌≤◌, Bool, true, List, [], Option, Some, None, Result, Ok, Err, if◌then◌else◌, length, map, unwrap_or}
use Rattle.std.specs.List.{AllZip}
use Rattle.std.specs.Option.{is_some}
use Rattle.easl_model.specs.{Condition}
use Rattle.easl_model.specs.Form.{Form}
use Rattle.easl_model.specs.declared.form.Method.{Method}
use Rattle.access_paths.specs.{IsFamilyOf}
use Rattle.access_paths.specs.Trees.{Tree}
use Rattle.access_paths.specs.declared.term.Cube.{Cube}
use Rattle.access_paths.specs.declared.term.Family.{Family}
use Rattle.access_paths.specs.declared.term.Term.{Term}
use Rattle.case_model.specs.{AreConfigurations, AreDisjuncts, AreMoreThan, AreTermsOf, FallsShort, HasLongTerm, HaveClasses, care_list, question_variables}
use Rattle.case_model.specs.{terms_asked, terms_of_clauses}
use Rattle.question_model.specs.{IsTree, fails, update}
use Rattle.question_model.specs.Split.{IsLong}
use Rattle.question_model.specs.Stage.{Stage}
use Rattle.question_model.specs.declared.answer.Answer.{Answer}
use Rattle.weakest_pre.specs.Running.{most}
use Rattle.derivation.specs.declared.reply.AskFault.{AskFault}
use Rattle.derivation.specs.declared.reply.AskFault.TheVariants.{Path, Cases, Cover, Memory}
use Rattle.derivation.specs.declared.reply.Predicate.{Predicate}
use Rattle.derivation.specs.declared.reply.Predicate.TheVariants.{Always, Of}
use Rattle.derivation.specs.declared.reply.Reply.{Reply}

-- the classes of a question's variables by number, 0 where one has none
abbrev pub classes_by_number : Method → Option Family → List ℕ
classes_by_number m family = map (λ c. unwrap_or c 0) (question_variables m family)

-- the empty cube is true always; another one is its family's, of its arguments
abbrev pub IsPredicateOf : List ℕ → Cube → Predicate → Type 0
IsPredicateOf classes c Always = c.literals ≡ []
IsPredicateOf classes c (Of i) = (c.literals ≢ []) × IsFamilyOf c classes i

-- In an update question those of the configurations count in which all clauses of the method are true, in a clause
-- question, which has no family, all of them.
abbrev pub counted : Method → Option Family → List Term → List (List ℕ) → List (List ℕ)
counted m family ts all = if is_some family then care_list m ts all else all

-- a clause that an update question asks for has a term of 7 fields
abbrev pub HasLongClause : Method → Option Family → Type 0
HasLongClause m family = (is_some family ≡ true) × HasLongTerm (terms_of_clauses m)

-- Below, the question is on this family, or, where there is none, on a clause.
module _ (form : Form) (m : Method) (family : Option Family) where
  -- Below, this is its tree.
  module _ (tree : Tree) where
    -- the terms that it asks, with their classes
    pub record IsItsList (ts : List Term) (classes : List ℕ) : Type 0 where
      pub short : ¬ HasLongClause m family
      pub terms : AreTermsOf (terms_asked m tree (is_some family)) ts
      pub typed : HaveClasses form (question_variables m family) ts classes

    -- all configurations of these
    pub record AreItsCases (ts : List Term) (classes : List ℕ) (all : List (List ℕ)) : Type 0 where
      pub list : IsItsList ts classes
      pub whole : AreConfigurations ts classes all
      pub few : length all ≤ 65536

    pub record HasManyCases : Type 0 where
      pub ts : List Term
      pub classes : List ℕ
      pub list : IsItsList ts classes
      pub many : AreMoreThan 65536 ts classes

    -- the disjuncts do not cover the tree
    pub record IsUncovered : Type 0 where
      pub ts : List Term
      pub classes : List ℕ
      pub all : List (List ℕ)
      pub cases : AreItsCases ts classes all
      pub cubes : List Cube
      pub chosen : AreDisjuncts ts (counted m family ts all) tree cubes
      pub short : FallsShort ts (counted m family ts all) tree cubes

    -- the disjuncts cover the tree
    pub record IsReply (r : Reply) : Type 0 where
      pub ts : List Term
      pub classes : List ℕ
      pub all : List (List ℕ)
      pub cases : AreItsCases ts classes all
      pub cubes : List Cube
      pub chosen : AreDisjuncts ts (counted m family ts all) tree cubes
      pub covers : ¬ FallsShort ts (counted m family ts all) tree cubes
      pub disjuncts : AllZip (IsPredicateOf (classes_by_number m family)) cubes r.disjuncts
      pub term_count : r.term_count ≡ length ts
      pub case_count : r.case_count ≡ length all

    -- want of memory is free
    abbrev pub ComesTo : Result Reply AskFault → Type 0
    ComesTo (Ok r) = IsReply r
    ComesTo (Err Path) = HasLongClause m family
    ComesTo (Err Cases) = HasManyCases
    ComesTo (Err Cover) = IsUncovered
    ComesTo (Err Memory) = Unit {0}

  -- what the question comes to that this computation asks
  abbrev pub Replies : (List Answer → Stage Bool) → Result Reply AskFault → Type 0
  Replies question (Err Path) = IsLong question ⊎ HasLongClause m family
  Replies question (Err Memory) = Unit {0}
  Replies question r = (tree : Tree) × IsTree question tree × ComesTo tree r

-- when the clause is false
abbrev pub ClauseReplies : Form → Method → Condition → Result Reply AskFault → Type 0
ClauseReplies form m c r = Replies form m None (λ answers. fails form most answers m c) r

-- when the family is true after the method, with the result at these positions
abbrev pub UpdateReplies : Form → Method → Family → ℕ → Result Reply AskFault → Type 0
UpdateReplies form m family results r = Replies form m (Some family) (λ answers. update form most answers m family results) r
