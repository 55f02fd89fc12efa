-- The steps to a reply need what the steps before gave.
use Rattle.std.proofs.Common.{◌≡◌, ℕ, zero, suc, ◌<◌, ◌≤◌, Bool, true, Bor, if◌then◌else◌, List, [], ◌∷◌, All, Contains, Option, Some, None, Result, Ok, Err, length, slice_get, arith, refl, ap, sym, subst, ◌∙◌, ⊎_elim, inr}
use Rattle.std.specs.Prelude.{IfSome, IsErrAnd}
use Rattle.std.specs.List.{AllZip}
use Rattle.std.specs.Option.{is_some, option_copied}
use Rattle.std.proofs.lemmas.List.Elements.{Contains-append_left, Contains-append_right}
use Rattle.std.proofs.lemmas.Option.{slice_get-get_or, slice_get_within}
use Rattle.easl_model.specs.Form.{Form}
use Rattle.easl_model.specs.declared.form.Method.{Method}
use Rattle.easl_model.proofs.Items.{zip_from}
use Rattle.access_paths.specs.{HasKnownVariables, IsCube, IsTermOf, before_call, no_family, variables_of}
use Rattle.access_paths.specs.Trees.{Tree}
use Rattle.access_paths.specs.declared.term.Cube.{Cube}
use Rattle.access_paths.specs.declared.term.Family.{Family}
use Rattle.access_paths.specs.declared.term.Literal.{Literal}
use Rattle.access_paths.specs.declared.term.Term.{Term}
use Rattle.access_paths.proofs.Members.{in_flat_map}
use Rattle.access_paths.proofs.Substituted.{all_members}
use Rattle.alias_cases.specs.declared.case.Cases.{Cases}
use Rattle.case_model.specs.{AreDisjuncts, AreTermsOf, AreTyped, FallsShort, HasTerms, HaveClasses, IsTermList, question_variables, terms_asked}
use Rattle.case_model.specs.{terms_of_clauses, terms_of_cube, terms_of_tree}
use Rattle.case_model.proofs.Terms.{asked_are_there}
use Rattle.cube_cover.specs.{AreCases, DisjunctsFallShort, configurations_at}
use Rattle.cube_cover.specs.declared.fault.CoverFault.{CoverFault}
use Rattle.cube_cover.specs.declared.fault.CoverFault.TheVariants as cover
use Rattle.derivation.specs.Faults.{of_cover}
use Rattle.question_model.specs.{IsTree, fails, update}
use Rattle.question_model.specs.Stage.{Stage}
use Rattle.question_model.specs.declared.answer.Answer.{Answer}
use Rattle.question_model.proofs.AskedTerms.{clause_asks_terms, update_asks_terms}
use Rattle.weakest_pre.specs.{HasClause, IsClauseAt}
use Rattle.weakest_pre.specs.Running.{most}
use Rattle.easl_model.specs.{Condition}
use Rattle.easl_model.specs.declared.form.Test.{Test}
use Rattle.derivation.proofs.Scopes.{tree_typed, typed_before}
use Rattle.derivation.specs.declared.reply.AskFault.TheVariants.{Path, Memory}
use Rattle.derivation.specs.declared.reply.AskFault.TheVariants as fault
use Rattle.derivation.specs.Replies.{AreItsCases, ComesTo, Replies, IsPredicateOf, IsReply, IsUncovered, classes_by_number, counted}
use Rattle.derivation.specs.declared.reply.AskFault.{AskFault}
use Rattle.derivation.specs.declared.reply.Reply.{Reply}

few_variables : (m : Method) (family : Option Family) → length m.params ≤ 4 → length (question_variables m family) ≤ 8
few_variables m None few = omega (arith, few)
few_variables m (Some family) few = omega (arith, few)

-- what stands at a place of a list
pub stands : {X : Type 0} (xs : List X) (n : ℕ) → n < length xs → (x : X) × (slice_get xs n ≡ Some x)
stands [] n within = absurd (omega arith)
stands (x ∷ xs) zero within = (x, refl)
stands (x ∷ xs) (suc n) within = stands xs n (omega arith)

pub is_term_list : (form : Form) (variables : List (Option ℕ)) (asked ts : List Term) (classes : List ℕ) → AreTermsOf asked ts
    → HaveClasses form variables ts classes → IsTermList ts classes
is_term_list form variables asked ts classes are typed = record { form = form; variables = variables; asked = asked; terms = are; typed = typed }

-- Below, these are a question's cases.
module _ (form : Form) (m : Method) (family : Option Family) (tree : Tree) (cases : Cases)
    (its : AreItsCases form m family tree cases.terms.list cases.terms.classes cases.list) where
  pub are_cases : AreCases cases
  are_cases = record {
    term_list = is_term_list form (question_variables m family) (terms_asked m tree (is_some family)) cases.terms.list cases.terms.classes its.list.terms
        its.list.typed;
    whole = its.whole;
    few = its.few;
  }

  asked : HasTerms cases.terms.list (terms_asked m tree (is_some family))
  asked = asked_are_there (terms_asked m tree (is_some family)) cases.terms.list its.list.terms

  pub has_tree : HasTerms cases.terms.list (terms_of_tree tree)
  has_tree t has = asked t (Contains-append_left (terms_of_tree tree) (if is_some family then terms_of_clauses m else []) t has)

  pub has_clauses : is_some family ≡ true → HasTerms cases.terms.list (terms_of_clauses m)
  has_clauses some t has =
      asked t (Contains-append_right (terms_of_tree tree) (if is_some family then terms_of_clauses m else []) t
      (subst (λ b. Contains (if b then terms_of_clauses m else []) t) (sym some) has))

  -- the chosen cubes fall short
  pub is_uncovered : (numbers : List ℕ) → configurations_at cases.list numbers ≡ counted m family cases.terms.list cases.list
      → DisjunctsFallShort cases.terms.list (configurations_at cases.list numbers) tree → IsUncovered form m family tree
  is_uncovered numbers named falls =
      let so = subst (λ care. DisjunctsFallShort cases.terms.list care tree) named falls in
      record {
        ts = cases.terms.list;
        classes = cases.terms.classes;
        all = cases.list;
        cases = its;
        cubes = so.0;
        chosen = so.1;
        short = so.2;
      }

  pub comes_to : (fault : CoverFault) (r : Result Reply AskFault) (numbers : List ℕ) → IsErrAnd r (λ e. e ≡ of_cover fault)
      → configurations_at cases.list numbers ≡ counted m family cases.terms.list cases.list
      → (fault ≡ cover.Cover → DisjunctsFallShort cases.terms.list (configurations_at cases.list numbers) tree) → ComesTo form m family tree r
  comes_to fault (Ok r) numbers is named falls = absurd is
  comes_to cover.Cover (Err e) numbers is named falls =
      subst (λ x. ComesTo form m family tree (Err x)) (sym is) (is_uncovered numbers named (falls refl))
  comes_to cover.Memory (Err e) numbers is named falls = subst (λ x. ComesTo form m family tree (Err x)) (sym is) tt

  -- the chosen cubes cover the tree
  pub is_reply : (numbers : List ℕ) (cubes : List Cube) (r : Reply) → configurations_at cases.list numbers ≡ counted m family cases.terms.list cases.list
      → AreDisjuncts cases.terms.list (configurations_at cases.list numbers) tree cubes
      → ¬ FallsShort cases.terms.list (configurations_at cases.list numbers) tree cubes
      → AllZip (IsPredicateOf (classes_by_number m family)) cubes r.disjuncts → r.term_count ≡ length cases.terms.list → r.case_count ≡ length cases.list
      → IsReply form m family tree r
  is_reply numbers cubes r named chosen covers disjuncts term_count case_count = record {
    ts = cases.terms.list;
    classes = cases.terms.classes;
    all = cases.list;
    cases = its;
    cubes = cubes;
    chosen = subst (λ care. AreDisjuncts cases.terms.list care tree cubes) named chosen;
    covers = subst (λ care. ¬ FallsShort cases.terms.list care tree cubes) named covers;
    disjuncts = disjuncts;
    term_count = term_count;
    case_count = case_count;
  }

-- the terms of the clauses are there, where the question is an update question
pub with_clauses : (form : Form) (m : Method) (family : Option (Bor Family)) (tree : Tree) (cases : Cases) (found : Option Method)
    → AreItsCases form m (option_copied family) tree cases.terms.list cases.terms.classes cases.list → found ≡ Some m
    → IfSome family (λ lent. IfSome found (λ called. HasTerms cases.terms.list (terms_of_clauses called)))
with_clauses form m None tree cases found its is = tt
with_clauses form m (Some f) tree cases found its is =
    subst (λ o. IfSome o (λ called. HasTerms cases.terms.list (terms_of_clauses called))) (sym is)
    (has_clauses form m (option_copied (Some f)) tree cases its refl)

pub chosen_cubes : (ts : List Term) (care : List (List ℕ)) (tree : Tree) (cubes : List Cube) → AreDisjuncts ts care tree cubes → All IsCube cubes
chosen_cubes ts care tree cubes chosen = all_members IsCube cubes (λ c has. ((chosen.are c).0 has).0.implicant.cube)

-- the variables of chosen cubes are those of the question
module _ (form : Form) (m : Method) (family : Option Family) (ts : List Term) (classes : List ℕ) (few : length m.params ≤ 4)
    (typed : HaveClasses form (question_variables m family) ts classes) where
  below : (t : Term) → Contains ts t → t.var.0 < 8
  below t has =
      let at : slice_get ts has.0 ≡ Some t = slice_get-get_or ts has.0 t has.1 ∙ ap Some has.2 in
      let of = zip_from (IsTermOf form (question_variables m family)) ts classes has.0 t typed at in
      omega (arith, few_variables m family few, slice_get_within (question_variables m family) t.var.0 (Some of.2.start) of.2.variable)

  known : (c : Cube) → HasTerms ts (terms_of_cube c.literals) → HasKnownVariables c
  known c over v is =
      let both : Literal → List Term = λ l. l.less ∷ l.more ∷ [] in
      let l = is.1 in
      ⊎_elim
      (λ (e : l.less.var.0 ≡ v). subst (λ w. w < 8) e
      (below l.less (over l.less (in_flat_map both c.literals l l.less (is.0, is.2, is.3) (0, omega arith, refl)))))
      (λ (e : l.more.var.0 ≡ v). subst (λ w. w < 8) e
      (below l.more (over l.more (in_flat_map both c.literals l l.more (is.0, is.2, is.3) (1, omega arith, refl)))))
      is.4

  pub chosen_known : (care : List (List ℕ)) (tree : Tree) (cubes : List Cube) → AreDisjuncts ts care tree cubes → All HasKnownVariables cubes
  chosen_known care tree cubes chosen = all_members HasKnownVariables cubes (λ c has. known c ((chosen.are c).0 has).0.implicant.over)

-- a question with a tree comes to what the tree comes to
pub replied : (form : Form) (m : Method) (family : Option Family) (question : List Answer → Stage Bool) (tree : Tree) (r : Result Reply AskFault)
    → IsTree question tree → ComesTo form m family tree r → Replies form m family question r
replied form m family question tree (Ok r) is comes = (tree, is, comes)
replied form m family question tree (Err Path) is comes = inr comes
replied form m family question tree (Err fault.Cases) is comes = (tree, is, comes)
replied form m family question tree (Err fault.Cover) is comes = (tree, is, comes)
replied form m family question tree (Err Memory) is comes = tt

-- the clause at this number, of the method that is there
pub clause_there : (form : Form) (method clause : ℕ) (m : Method) → HasClause form method clause → slice_get form.methods method ≡ Some m
    → (test : Test) × IsClauseAt form method clause m test
clause_there form method clause m has at =
    let same_some : Some has.0 ≡ Some m = sym has.2.found ∙ at in
    let same : has.0 ≡ m = cc in
    (has.1, subst (λ x. IsClauseAt form method clause x has.1) same has.2)

-- the trees of questions ask terms of their variables
pub clause_typed : (form : Form) (m : Method) (c : Condition) (tree : Tree) → IsTree (λ answers. fails form most answers m c) tree
    → AreTyped form (question_variables m None) (terms_of_tree tree)
clause_typed form m c tree is = tree_typed form most (variables_of m no_family) tree (clause_asks_terms form most m c tree is)

pub update_tree_typed : (form : Form) (m : Method) (family : Family) (results : ℕ) (tree : Tree)
    → IsTree (λ answers. update form most answers m family results) tree → AreTyped form (question_variables m (Some family)) (terms_of_tree tree)
update_tree_typed form m family results tree is =
    typed_before form m family results (terms_of_tree tree)
    (tree_typed form most (variables_of m (before_call family results)) tree (update_asks_terms form most m family results tree is))
