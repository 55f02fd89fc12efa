-- A client that is printed and read again is the same one, places aside.
use Rattle.std.proofs.Common.{◌≡◌, ℕ, ◌+◌, Bool, true, false, List, [], ◌∷◌, ◌++◌, drop, append_assoc, append-nil, refl, sym, ap, ◌∙◌, subst}
use Rattle.std.specs.List.{AllByRecursion}
use Rattle.client_model.specs.Statements.{Statement, Statements, Declare, Assign, Do, If, While, Break, Continue, Return, none, ◌▸◌}
use Rattle.client_model.specs.declared.tree.Proc.{Proc}
use Rattle.client_model.specs.declared.tree.Static.{Static}
use Rattle.easl_model.specs.declared.token.Key.TheVariants as keyword
use Rattle.easl_model.specs.declared.token.Mark.TheVariants as sign
use Rattle.cv_layout.specs.Layout.{Lexeme, Line, key, mark, line, braced, parens}
use Rattle.cv_layout.specs.Tokens.{IsProper, AreOf, tokens_on}
use Rattle.cv_layout.specs.Words.{named}
use Rattle.cv_layout.proofs.Cutting.{lines_are_cut}
use Rattle.cv_layout.proofs.Nesting.{stays_shallow}
use Rattle.cv_layout.proofs.Words.{are_written}
use Rattle.easl_print.proofs.BodyPrints.{brace, else_tokens}
use Rattle.easl_print.specs.Lines.{sort, params, alternative}
use Rattle.client_print.specs.Laws.{ClientsAreReadAgain}
use Rattle.client_print.specs.Lines.{test, guard, statement_lines, block_lines, block_of, static_line, procedure_lines, item_lines, client_lines, client_text}
use Rattle.client_print.specs.Lines as lines
use Rattle.client_print.proofs.ItemPrints.{static_tokens, procedure_tokens, first_static, first_procedure, item_tokens, client_proper, client_again}
use Rattle.client_print.proofs.Limits.{same_limits}
use Rattle.client_print.proofs.NestingRules.{client_nest}
use Rattle.client_print.proofs.SameText.{same_text}
use Rattle.client_print.proofs.StatementPrints.{statement_tokens, block_tokens}

tokens_append : (xs ys : List Line) → tokens_on (xs ++ ys) ≡ tokens_on xs ++ tokens_on ys
tokens_append [] ys = refl
tokens_append (x ∷ xs) ys = ap (λ l. x.tokens ++ l) (tokens_append xs ys) ∙ sym (append_assoc x.tokens (tokens_on xs) (tokens_on ys))

tokens_braced : (d : ℕ) (opening : List Lexeme) (body : List Line) (inner : List Lexeme) → tokens_on body ≡ inner → tokens_on
    (braced d opening body) ≡ opening ++ brace inner
tokens_braced d opening body inner e =
    let begin = mark sign.Begin ∷ [] in
    let end = mark sign.End ∷ [] in
    ap (λ l. (opening ++ begin) ++ l) (tokens_append body (line d end) ∙ ap (λ l. l ++ end) e)
    ∙ append_assoc opening begin (inner ++ end)

tokens_line : (d : ℕ) (xs : List Lexeme) → tokens_on (line d xs) ≡ xs
tokens_line d xs = append-nil xs

tokens_alternative : (d : ℕ) (b : Bool) (ls : List Line) → tokens_on (alternative d b ls) ≡ mark sign.End ∷ else_tokens b (tokens_on ls)
tokens_alternative d true ls = ap (λ l. mark sign.End ∷ key keyword.Else ∷ mark sign.Begin ∷ l) (tokens_append ls (line d (mark sign.End ∷ [])))
tokens_alternative d false ls = refl

around : (p x e : List Lexeme) → (p ++ mark sign.Begin ∷ []) ++ (x ++ mark sign.End ∷ e) ≡ p ++ (brace x ++ e)
around p x e =
    append_assoc p (mark sign.Begin ∷ []) (x ++ mark sign.End ∷ e) ∙ ap (λ l. p ++ (mark sign.Begin ∷ l)) (sym (append_assoc x (mark sign.End ∷ []) e))

mutual
  tokens_statement : (d : ℕ) (w : Statement) → tokens_on (statement_lines d w) ≡ statement_tokens w
  tokens_statement d (Declare place s n v) = tokens_line d (statement_tokens (Declare place s n v))
  tokens_statement d (Assign n v) = tokens_line d (statement_tokens (Assign n v))
  tokens_statement d (Do v) = tokens_line d (statement_tokens (Do v))
  tokens_statement d (If place t xs ys b) =
      let first = block_lines (d + 1) xs in
      let last = alternative d b (block_lines (d + 1) ys) in
      ap (λ l. guard keyword.If t ++ l) (tokens_append first last ∙ ap (λ l. l ++ tokens_on last) (tokens_block (d + 1) xs)
      ∙ ap (λ l. block_tokens xs ++ l) (tokens_alternative d b (block_lines (d + 1) ys) ∙ ap (λ l. mark sign.End ∷ else_tokens b l)
      (tokens_block (d + 1) ys)))
      ∙ ap (λ l. key keyword.If ∷ l) (around (parens (test t)) (block_tokens xs) (else_tokens b (block_tokens ys)))
  tokens_statement d (While place t xs) =
      tokens_braced d (key keyword.While ∷ parens (test t)) (block_lines (d + 1) xs) (block_tokens xs) (tokens_block (d + 1) xs)
  tokens_statement d (Break place) = tokens_line d (statement_tokens (Break place))
  tokens_statement d (Continue place) = tokens_line d (statement_tokens (Continue place))
  tokens_statement d (Return r) = tokens_line d (statement_tokens (Return r))

  tokens_block : (d : ℕ) (xs : Statements) → tokens_on (block_lines d xs) ≡ block_tokens xs
  tokens_block d none = refl
  tokens_block d (x ▸ xs) =
      tokens_append (statement_lines d x) (block_lines d xs) ∙ ap (λ l. l ++ tokens_on (block_lines d xs)) (tokens_statement d x)
      ∙ ap (λ l. statement_tokens x ++ l)
      (tokens_block d xs)

tokens_procedure : (p : Proc) → tokens_on (procedure_lines p) ≡ procedure_tokens p
tokens_procedure p =
    let body = block_of p.body in
    tokens_braced 0 (sort p.result ∷ named p.name ∷ params p.params) (block_lines 1 body) (block_tokens body) (tokens_block 1 body)

tokens_first_static : (xs : List Static) → tokens_on (lines.first_static xs) ≡ first_static xs
tokens_first_static [] = refl
tokens_first_static (x ∷ xs) = tokens_line 0 (static_tokens x)

tokens_first_procedure : (ys : List Proc) → tokens_on (lines.first_procedure ys) ≡ first_procedure ys
tokens_first_procedure [] = refl
tokens_first_procedure (y ∷ ys) = tokens_procedure y

tokens_items : (order : List Bool) (xs : List Static) (ys : List Proc) → tokens_on (item_lines order xs ys) ≡ item_tokens order xs ys
tokens_items [] xs ys = refl
tokens_items (true ∷ order) xs ys =
    let rest = item_lines order (drop 1 xs) ys in
    tokens_append (lines.first_static xs) rest ∙ ap (λ l. l ++ tokens_on rest) (tokens_first_static xs)
    ∙ ap (λ l. first_static xs ++ l) (tokens_items order (drop 1 xs) ys)
tokens_items (false ∷ order) xs ys =
    let rest = item_lines order xs (drop 1 ys) in
    tokens_append (lines.first_procedure ys) rest ∙ ap (λ l. l ++ tokens_on rest) (tokens_first_procedure ys)
    ∙ ap (λ l. first_procedure ys ++ l) (tokens_items order xs (drop 1 ys))

pub clients_are_read_again : ClientsAreReadAgain
clients_are_read_again text client s =
    let end = s.tokens.end in
    let list = s.tokens.list in
    let laid = item_tokens client.order client.statics client.procedures in
    let e = tokens_items client.order client.statics client.procedures in
    let a = are_written text s.tokens s.cut in
    let cut = lines_are_cut (client_lines client) (subst (AllByRecursion IsProper) (sym e) (client_proper text end list client a s.spelled)) in
    let written : AreOf (client_text client) cut.0.list laid = subst (AreOf (client_text client) cut.0.list) e cut.2 in
    let again = client_again text end list client a s.spelled (client_text client) cut.0.end cut.0.list written in
    let nests = client_nest text end list client a s.spelled in (
      again.0,
      record {
        spells = record {
          tokens = cut.0;
          cut = cut.1;
          shallow = stays_shallow (client_text client) 64 0 cut.0.list laid written (nests.narrow 64 0 s.shallow);
          spelled = again.1;
        };
        same = again.2;
        limits = λ h. same_limits again.0 client again.2 h;
        text = same_text again.0 client again.2;
      },
    )
