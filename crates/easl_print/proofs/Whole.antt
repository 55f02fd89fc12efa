-- A specification that is printed and read again is the same one, places aside.
use Rattle.std.proofs.Common.{◌≡◌, ℕ, ◌+◌, Bool, true, false, List, [], ◌∷◌, ◌++◌, Some, None, Option, flat_map, append_assoc, append-nil, refl, sym, ap, ◌∙◌, subst}
use Rattle.std.specs.List.{AllByRecursion}
use Rattle.easl_model.specs.{Assign, Block, Declare, Written, block_of}
use Rattle.easl_model.specs.Steps.{If, ◌▸◌}
use Rattle.easl_model.specs.Steps as steps
use Rattle.easl_model.specs.declared.token.Mark.TheVariants as sign
use Rattle.easl_model.specs.declared.token.Key.TheVariants as keyword
use Rattle.easl_model.specs.declared.tree.Class.{Class}
use Rattle.easl_model.specs.declared.tree.Code.{Code}
use Rattle.easl_model.specs.declared.tree.Member.{Member}
use Rattle.easl_model.specs.declared.tree.Member.TheVariants as member
use Rattle.easl_model.specs.declared.tree.Return.{Return}
use Rattle.easl_model.specs.declared.tree.Spec.{Spec}
use Rattle.cv_layout.specs.{AreOf, IsProper, Lexeme, Line, braced, key, line, mark, named, parens, tokens_on}
use Rattle.cv_layout.proofs.Cutting.{lines_are_cut}
use Rattle.easl_print.specs.Laws.{SpecsAreReadAgain}
use Rattle.easl_print.specs.Lines.{sort, params, condition, guard, alternative, step_lines, block_lines, clause_line, return_line, body_lines, member_lines, class_lines, spec_lines, spec_text}
use Rattle.easl_print.proofs.BodyPrints.{brace, else_tokens, step_tokens, block_tokens}
use Rattle.easl_print.proofs.Limits.{same_limits}
use Rattle.easl_print.proofs.MemberPrints.{clause_tokens, return_tokens, body_tokens, member_tokens, class_tokens, spec_proper, spec_again}
use Rattle.easl_print.proofs.NestingRules.{spec_nest}
use Rattle.easl_print.proofs.SameText.{same_text}
use Rattle.cv_layout.proofs.Nesting.{stays_shallow}
use Rattle.cv_layout.proofs.Words.{are_written}

tokens_append : (xs ys : List Line) → tokens_on (xs ++ ys) ≡ tokens_on xs ++ tokens_on ys
tokens_append [] ys = refl
tokens_append (x ∷ xs) ys = ap (λ l. x.tokens ++ l) (tokens_append xs ys) ∙ sym (append_assoc x.tokens (tokens_on xs) (tokens_on ys))

tokens_each : {A : Type 0} (f : A → List Line) (g : A → List Lexeme) → ((x : A) → tokens_on (f x) ≡ g x) → (xs : List A) → tokens_on
    (flat_map f xs) ≡ flat_map g xs
tokens_each f g e [] = refl
tokens_each f g e (x ∷ xs) = tokens_append (f x) (flat_map f xs) ∙ ap (λ l. l ++ tokens_on (flat_map f xs)) (e x) ∙ ap (λ l. g x ++ l) (tokens_each f g e xs)

tokens_braced : (d : ℕ) (opening : List Lexeme) (body : List Line) (inner : List Lexeme) → tokens_on body ≡ inner → tokens_on
    (braced d opening body) ≡ opening ++ brace inner
tokens_braced d opening body inner e =
    let begin = mark sign.Begin ∷ [] in
    let end = mark sign.End ∷ [] in
    ap (λ l. (opening ++ begin) ++ l) (tokens_append body (line d end) ∙ ap (λ l. l ++ end) e)
    ∙ append_assoc opening begin (inner ++ end)

tokens_line : (d : ℕ) (xs : List Lexeme) → tokens_on (line d xs) ≡ xs
tokens_line d xs = append-nil xs

tokens_return : (d : ℕ) (x : Option Return) → tokens_on (return_line d x) ≡ return_tokens x
tokens_return d None = refl
tokens_return d (Some r) = append-nil (return_tokens (Some r))

tokens_alternative : (d : ℕ) (b : Bool) (ls : List Line) → tokens_on (alternative d b ls) ≡ mark sign.End ∷ else_tokens b (tokens_on ls)
tokens_alternative d true ls = ap (λ l. mark sign.End ∷ key keyword.Else ∷ mark sign.Begin ∷ l) (tokens_append ls (line d (mark sign.End ∷ [])))
tokens_alternative d false ls = refl

around : (p x e : List Lexeme) → (p ++ mark sign.Begin ∷ []) ++ (x ++ mark sign.End ∷ e) ≡ p ++ (brace x ++ e)
around p x e =
    append_assoc p (mark sign.Begin ∷ []) (x ++ mark sign.End ∷ e) ∙ ap (λ l. p ++ (mark sign.Begin ∷ l)) (sym (append_assoc x (mark sign.End ∷ []) e))

mutual
  tokens_step : (d : ℕ) (w : Written) → tokens_on (step_lines d w) ≡ step_tokens w
  tokens_step d (Declare class name v) = tokens_line d (step_tokens (Declare class name v))
  tokens_step d (Assign target v) = tokens_line d (step_tokens (Assign target v))
  tokens_step d (If place c xs ys b) =
      let first = block_lines (d + 1) xs in
      let last = alternative d b (block_lines (d + 1) ys) in
      ap (λ l. guard c ++ l) (tokens_append first last ∙ ap (λ l. l ++ tokens_on last) (tokens_block (d + 1) xs)
      ∙ ap (λ l. block_tokens xs ++ l) (tokens_alternative d b (block_lines (d + 1) ys) ∙ ap (λ l. mark sign.End ∷ else_tokens b l)
      (tokens_block (d + 1) ys)))
      ∙ ap (λ l. key keyword.If ∷ l) (around (parens (condition c)) (block_tokens xs) (else_tokens b (block_tokens ys)))

  tokens_block : (d : ℕ) (xs : Block) → tokens_on (block_lines d xs) ≡ block_tokens xs
  tokens_block d steps.none = refl
  tokens_block d (x ▸ xs) =
      tokens_append (step_lines d x) (block_lines d xs) ∙ ap (λ l. l ++ tokens_on (block_lines d xs)) (tokens_step d x) ∙ ap (λ l. step_tokens x ++ l)
      (tokens_block d xs)

tokens_body : (d : ℕ) (c : Code) → tokens_on (body_lines d c) ≡ body_tokens c
tokens_body d c =
    let clauses = flat_map (clause_line d) c.clauses in
    let within = block_lines d (block_of c.body) in
    let last = return_line d c.value in
    tokens_append clauses (within ++ last)
    ∙ ap (λ l. l ++ tokens_on (within ++ last)) (tokens_each (clause_line d) clause_tokens (λ x. tokens_line d (clause_tokens x)) c.clauses)
    ∙ ap (λ l. flat_map clause_tokens c.clauses ++ l) (tokens_append within last ∙ ap (λ l. l ++ tokens_on last) (tokens_block d (block_of c.body)) ∙ ap
    (λ l. block_tokens (block_of c.body) ++ l) (tokens_return d c.value))

tokens_member : (d : ℕ) (m : Member) → tokens_on (member_lines d m) ≡ member_tokens m
tokens_member d (member.Field f) = refl
tokens_member d (member.Constructor c) = tokens_braced d (named c.name ∷ params c.params) (body_lines (d + 1) c) (body_tokens c) (tokens_body (d + 1) c)
tokens_member d (member.Method c) =
    tokens_braced d (sort c.result ∷ named c.name ∷ params c.params) (body_lines (d + 1) c) (body_tokens c) (tokens_body (d + 1) c)

tokens_class : (d : ℕ) (c : Class) → tokens_on (class_lines d c) ≡ class_tokens c
tokens_class d c =
    tokens_braced d (key keyword.Class ∷ named c.name ∷ []) (flat_map (member_lines (d + 1)) c.members) (flat_map member_tokens c.members)
    (tokens_each (member_lines (d + 1)) member_tokens (tokens_member (d + 1)) c.members)

tokens_spec : (spec : Spec) → tokens_on (spec_lines spec) ≡ flat_map class_tokens spec.classes
tokens_spec spec = tokens_each (class_lines 0) class_tokens (tokens_class 0) spec.classes

pub specs_are_read_again : SpecsAreReadAgain
specs_are_read_again text spec s =
    let end = s.tokens.end in
    let list = s.tokens.list in
    let laid = flat_map class_tokens spec.classes in
    let e = tokens_spec spec in
    let a = are_written text s.tokens s.cut in
    let cut = lines_are_cut (spec_lines spec) (subst (AllByRecursion IsProper) (sym e) (spec_proper text end list spec a s.spelled)) in
    let written : AreOf (spec_text spec) cut.0.list laid = subst (AreOf (spec_text spec) cut.0.list) e cut.2 in
    let again = spec_again text end list spec a s.spelled (spec_text spec) cut.0.end cut.0.list written in
    let nests = spec_nest text end list spec a s.spelled in (
      again.0,
      record {
        spells =
            record {
              tokens = cut.0;
              cut = cut.1;
              shallow = stays_shallow (spec_text spec) 64 0 cut.0.list laid written
                  (nests.narrow 64 0 s.shallow);
              spelled = again.1;
            };
        same = again.2;
        limits = λ h. same_limits again.0 spec again.2 h;
        text = same_text again.0 spec again.2;
      },
    )
