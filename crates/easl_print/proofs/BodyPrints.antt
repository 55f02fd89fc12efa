-- Values and steps that are printed and read again are the same, places aside.
use Rattle.std.proofs.Common.{◌≡◌, ℕ, Bool, true, false, List, [], ◌∷◌, ◌++◌, append-nil, map, refl, sym, ap, ◌∙◌, subst}
use Rattle.easl_model.specs.{Assign, Block, Clause, Declare, IsArg, IsBlock, IsGuard, IsMark, IsName, IsPath, IsSet, IsStep, IsSteps, IsValue, Written}
use Rattle.easl_model.specs.{assign, block, block_of, clause_of, declare, guard, if_alone, if_else, literal_arg, new_value, next_step, no_steps, path_arg}
use Rattle.easl_model.specs.{path_value, set, word_of, written_of}
use Rattle.easl_model.specs.Steps.{If, ◌▸◌}
use Rattle.easl_model.specs.Steps as steps
use Rattle.easl_model.specs.declared.place.Place.{Place}
use Rattle.easl_model.specs.declared.token.Key.TheVariants as keyword
use Rattle.easl_model.specs.declared.token.Mark.TheVariants as sign
use Rattle.easl_model.specs.declared.token.Token.{Token}
use Rattle.easl_model.specs.declared.tree.Arg.{Arg}
use Rattle.easl_model.specs.declared.tree.Arg.TheVariants as arg
use Rattle.easl_model.specs.declared.tree.Cond.{Cond}
use Rattle.easl_model.specs.declared.tree.Path.{Path}
use Rattle.easl_model.specs.declared.tree.Step.{Step}
use Rattle.easl_model.specs.declared.tree.Step.TheVariants as step
use Rattle.easl_model.specs.declared.tree.Value.{Value}
use Rattle.easl_model.specs.declared.tree.Value.TheVariants as value
use Rattle.easl_model.specs.declared.tree.Word.{Word}
use Rattle.cv_layout.specs.{AreOf, Lexeme, bare_word, key, mark, named, nowhere, parens}
use Rattle.easl_print.specs.Bare.{bare_path, bare, bare_arg, bare_value, bare_step, bare_block, bare_steps}
use Rattle.easl_print.specs.Lines.{path, condition, argument, arguments, value, ended}
use Rattle.easl_print.specs.Lines as lines
use Rattle.easl_print.proofs.CondPrints.{bare_cond, path_print, comparison_print}
use Rattle.easl_print.proofs.PlainSteps.{declare_is, assign_is, if_is}
use Rattle.cv_layout.proofs.Enclosed.{enclosed}
use Rattle.cv_layout.proofs.ListPrints.{listed_print}
use Rattle.cv_layout.proofs.Printed.{AreWritten, Prints}
use Rattle.cv_layout.proofs.Single.{is_mark, is_key, is_name, is_literal_again, mark_proper, key_proper, name_proper, literal_proper, same_word}
use Rattle.cv_layout.proofs.Splits.{all_front, all_back, all_both, split, headed, ending}

module _ (text : List ℕ) where
  pub arg_print : (ts : List Token) (x : Arg) → AreWritten text ts → IsArg text ts x → Prints IsArg bare_arg (bare_arg x) (argument x)
  arg_print ts _ a (path_arg {p = p} h) =
      let f = path_print text ts p a h in
      record { proper = f.proper; again = λ other us m. let r = f.again other us m in (arg.Path r.0, path_arg r.1, ap arg.Path r.2) }
  arg_print _ _ a (literal_arg {t = t} {w = w} l) = record {
    proper = (literal_proper text t w a.0 l, tt);
    again = λ other us m.
        let x = headed other us (named w) [] m in
        let v = word_of other x.0 in
        let e : us ≡ x.0 ∷ [] = x.2 ∙ ap (λ u. x.0 ∷ u) (ending other x.1 x.4) in (
          arg.Literal v,
          subst (λ u. IsArg other u (arg.Literal v)) (sym e) (literal_arg (is_literal_again text other t x.0 w a.0 l x.3)),
          ap arg.Literal
              (same_word v w x.3.written),
        );
  }

  pub value_print : (ts : List Token) (x : Value) → AreWritten text ts → IsValue text ts x → Prints IsValue bare_value (bare_value x) (value x)
  value_print ts _ a (path_value {p = p} h) =
      let f = path_print text ts p a h in
      record { proper = f.proper; again = λ other us m. let r = f.again other us m in (value.Path r.0, path_value r.1, ap value.Path r.2) }
  value_print _ _ a (new_value {class = class} {closing = closing} {c = c} {ts = ts} {xs = xs} k n o l z) =
      let f = listed_print IsArg bare_arg argument text arg_print ts xs (all_front _ ts (closing ∷ []) a.1.1.1) l in
      let close = mark sign.Close ∷ [] in
      record {
        proper = (
          key_proper keyword.New refl,
          (
            name_proper text class c a.1.0 n,
            (mark_proper sign.Open refl, all_both _ (arguments xs) close f.proper (mark_proper sign.Close refl, tt)),
          ),
        );
        again = λ other us m.
            let x = headed other us (key keyword.New) (named c ∷ parens (arguments xs)) m in
            let y = headed other x.1 (named c) (parens (arguments xs)) x.4 in
            let b = headed other y.1 (mark sign.Open) (arguments xs ++ close) y.4 in
            let s = split other b.1 (arguments xs) close b.4 in
            let e = headed other s.1 (mark sign.Close) [] s.4 in
            let r = f.again other s.0 s.3 in
            let v = word_of other y.0 in
            let made : Value = value.New (record { place = x.0.place; class = v; args = r.0 }) in
            let tokens : us ≡ x.0 ∷ y.0 ∷ b.0 ∷ s.0 ++ e.0 ∷ [] =
            x.2 ∙ ap (λ u. x.0 ∷ u) (y.2 ∙ ap (λ u. y.0 ∷ u)
            (b.2 ∙ ap (λ u. b.0 ∷ u) (s.2 ∙ ap (λ u. s.0 ++ u) (e.2 ∙ ap (λ u. e.0 ∷ u) (ending other e.1 e.4))))) in (
              made,
              subst (λ u. IsValue other u made) (sym tokens)
                  (new_value (is_key other keyword.New x.0 x.3) (is_name text other class y.0 c a.1.0 n y.3) (is_mark other sign.Open b.0 b.3) r.1
                  (is_mark other sign.Close e.0 e.3)),
              ap (λ u. value.New (record { place = nowhere; class = u; args = map bare_arg r.0 })) (same_word v c y.3.written) ∙ ap
                  (λ us. value.New (record { place = nowhere; class = bare_word c; args = us })) r.2,
            );
      }

  pub set_print : (ts : List Token) (x : Value) → AreWritten text ts → IsSet text ts x → Prints IsSet bare_value (bare_value x) (lines.set x)
  set_print _ x a (set {semicolon = semicolon} {ts = ts} k h l) =
      enclosed (mark sign.Assign) sign.Semicolon (IsMark sign.Assign) (mark_proper sign.Assign refl) refl (λ t o i. is_mark t sign.Assign o i)
      (λ o y. y) bare_value (λ c. c) (λ o y. refl) (λ t o c ts y i k j. set i k j) (bare_value x) (value x)
      (value_print ts x (all_front _ ts (semicolon ∷ []) a.1) h)

  guard_print : (ts : List Token) (x : Cond) → AreWritten text ts → IsGuard text ts x → Prints IsGuard bare_cond (bare_cond x)
      (parens (condition (clause_of x)))
  guard_print _ x a (guard {closing = closing} {ts = ts} k h l) =
      enclosed (mark sign.Open) sign.Close (IsMark sign.Open) (mark_proper sign.Open refl) refl (λ t o i. is_mark t sign.Open o i)
      (λ o y. y) bare_cond (λ c. c) (λ o y. refl) (λ t o c ts y i k j. guard i k j) (bare_cond x) (condition (clause_of x))
      (comparison_print text ts x (all_front _ ts (closing ∷ []) a.1) h)

-- the tokens of steps
abbrev pub brace : List Lexeme → List Lexeme
brace xs = mark sign.Begin ∷ (xs ++ mark sign.End ∷ [])

abbrev pub else_tokens : Bool → List Lexeme → List Lexeme
else_tokens true xs = key keyword.Else ∷ brace xs
else_tokens false xs = []

abbrev mutual
  pub step_tokens : Written → List Lexeme
  step_tokens (Declare class name v) = named class ∷ named name ∷ lines.set v
  step_tokens (Assign target v) = path target ++ lines.set v
  step_tokens (If place test first second has_else) =
      key keyword.If ∷ (parens (condition test) ++ (brace (block_tokens first) ++ else_tokens has_else (block_tokens second)))

  pub block_tokens : Block → List Lexeme
  block_tokens steps.none = []
  block_tokens (x ▸ xs) = step_tokens x ++ block_tokens xs

abbrev pub plain_step : Step → Written
plain_step x = bare_step (written_of x)

abbrev pub StepPrints : Written → Type 0
StepPrints w = Prints IsStep plain_step (bare_step w) (step_tokens w)

module _ (text : List ℕ) where
  declare_print : (class name : Token) (c n : Word) (ts : List Token) (x : Value) → AreWritten text (class ∷ name ∷ ts) → IsName text class c
      → IsName text name n → IsSet text ts x
      → StepPrints (Declare c n x)
  declare_print class name c n ts x a i j h =
      let f = set_print text ts x a.1.1 h in
      record {
        proper = (name_proper text class c a.0 i, (name_proper text name n a.1.0 j, f.proper));
        again = λ other us m.
            let y = headed other us (named c) (named n ∷ lines.set x) m in
            let z = headed other y.1 (named n) (lines.set x) y.4 in
            let r = f.again other z.1 z.4 in
            let v = word_of other y.0 in
            let w = word_of other z.0 in (
              step.Declare v w r.0,
              subst (λ u. IsStep other u (step.Declare v w r.0)) (sym (y.2 ∙ ap (λ u. y.0 ∷ u) z.2))
                  (declare (is_name text other class y.0 c a.0 i y.3) (is_name text other name z.0 n a.1.0 j z.3) r.1),
              ap bare_step (declare_is v w r.0) ∙ ap (λ u. Declare u (bare_word w) (bare_value r.0)) (same_word v c y.3.written)
                  ∙ ap (λ u. Declare (bare_word c) u (bare_value r.0)) (same_word w n z.3.written) ∙ ap (λ u. Declare (bare_word c) (bare_word n) u) r.2,
            );
      }

  assign_print : (ts us : List Token) (p : Path) (x : Value) → AreWritten text (ts ++ us) → IsPath text ts p → IsSet text us x → StepPrints (Assign p x)
  assign_print ts us p x a h k =
      let f = path_print text ts p (all_front _ ts us a) h in
      let g = set_print text us x (all_back _ ts us a) k in
      record {
        proper = all_both _ (path p) (lines.set x) f.proper g.proper;
        again = λ other us m.
            let s = split other us (path p) (lines.set x) m in
            let q = f.again other s.0 s.3 in
            let r = g.again other s.1 s.4 in (
              step.Assign q.0 r.0,
              subst (λ u. IsStep other u (step.Assign q.0 r.0)) (sym s.2) (assign q.1 r.1),
              ap bare_step (assign_is q.0 r.0) ∙ ap (λ u. Assign u (bare_value r.0)) q.2 ∙ ap (λ u. Assign (bare_path p) u) r.2,
            );
      }

abbrev BlockPrints : Block → Type 0
BlockPrints b = Prints IsBlock bare_steps (bare_block b) (brace (block_tokens b))

-- a conditional, of parts that are printed
if_print : (place : Place) (c : Clause) (xs : Block) → Prints IsGuard bare_cond (bare c) (parens (condition c)) → BlockPrints xs → StepPrints
    (If place c xs steps.none false)
if_print place c xs f g = record {
  proper = (
    key_proper keyword.If refl,
    all_both _ (parens (condition c)) (brace (block_tokens xs) ++ []) f.proper
        (all_both _ (brace (block_tokens xs)) [] g.proper tt),
  );
  again = λ other us m.
      let k = headed other us (key keyword.If) (parens (condition c) ++ (brace (block_tokens xs) ++ [])) m in
      let s = split other k.1 (parens (condition c)) (brace (block_tokens xs) ++ []) k.4 in
      let q = f.again other s.0 s.3 in
      let r = g.again other s.1 (subst (AreOf other s.1) (append-nil (brace (block_tokens xs))) s.4) in
      let made : Step = step.If k.0.place q.0 r.0 [] false in (
        made,
        subst (λ u. IsStep other u made) (sym (k.2 ∙ ap (λ u. k.0 ∷ u) s.2)) (if_alone (is_key other keyword.If k.0 k.3) q.1 r.1),
        ap bare_step (if_is k.0.place q.0 r.0 [] false) ∙ ap (λ u. If nowhere u (bare_steps r.0) steps.none false) q.2 ∙ ap
            (λ u. If nowhere (bare c) u steps.none false) r.2,
      );
}

else_print : (place : Place) (c : Clause) (xs ys : Block) → Prints IsGuard bare_cond (bare c) (parens (condition c)) → BlockPrints xs → BlockPrints ys
    → StepPrints (If place c xs ys true)
else_print place c xs ys f g h =
    let one = brace (block_tokens xs) in
    let other_one = key keyword.Else ∷ brace (block_tokens ys) in
    record {
      proper = (
        key_proper keyword.If refl,
        all_both _ (parens (condition c)) (one ++ other_one) f.proper
            (all_both _ one other_one g.proper (key_proper keyword.Else refl, h.proper)),
      );
      again = λ other us m.
          let k = headed other us (key keyword.If) (parens (condition c) ++ (one ++ other_one)) m in
          let s = split other k.1 (parens (condition c)) (one ++ other_one) k.4 in
          let t = split other s.1 one other_one s.4 in
          let l = headed other t.1 (key keyword.Else) (brace (block_tokens ys)) t.4 in
          let q = f.again other s.0 s.3 in
          let r = g.again other t.0 t.3 in
          let v = h.again other l.1 l.4 in
          let made : Step = step.If k.0.place q.0 r.0 v.0 true in
          let all : us ≡ k.0 ∷ (s.0 ++ (t.0 ++ l.0 ∷ l.1)) = k.2 ∙ ap (λ u. k.0 ∷ u) (s.2 ∙ ap (λ u. s.0 ++ u) (t.2 ∙ ap (λ u. t.0 ++ u) l.2)) in (
            made,
            subst (λ u. IsStep other u made) (sym all) (if_else (is_key other keyword.If k.0 k.3) q.1 r.1 (is_key other keyword.Else l.0 l.3) v.1),
            ap bare_step (if_is k.0.place q.0 r.0 v.0 true) ∙ ap (λ u. If nowhere u (bare_steps r.0) (bare_steps v.0) true) q.2
                ∙ ap (λ u. If nowhere (bare c) u (bare_steps v.0) true) r.2 ∙ ap (λ u. If nowhere (bare c) (bare_block xs) u true) v.2,
          );
    }

module _ (text : List ℕ) where
  mutual
    step_print : (ts : List Token) (x : Step) → AreWritten text ts → IsStep text ts x → StepPrints (written_of x)
    step_print _ _ a (declare {class = class} {name = name} {c = c} {n = n} {ts = ts} {x = x} i j h) =
        subst StepPrints (sym (declare_is c n x)) (declare_print text class name c n ts x a i j h)
    step_print _ _ a (assign {ts = ts} {us = us} {p = p} {x = x} h k) = subst StepPrints (sym (assign_is p x)) (assign_print text ts us p x a h k)
    step_print _ _ a (if_alone {keyword = k} {ts = ts} {us = us} {c = c} {xs = xs} i g b) =
        subst StepPrints (sym (if_is k.place c xs [] false))
        (if_print k.place (clause_of c) (block_of xs) (guard_print text ts c (all_front _ ts us a.1) g) (block_print us xs (all_back _ ts us a.1) b))
    step_print _ _ a (if_else {keyword = k} {other = o} {ts = ts} {us = us} {vs = vs} {c = c} {xs = xs} {ys = ys} i g b j d) =
        let behind = all_back _ ts (us ++ o ∷ vs) a.1 in
        subst StepPrints (sym (if_is k.place c xs ys true))
        (else_print k.place (clause_of c) (block_of xs) (block_of ys) (guard_print text ts c (all_front _ ts (us ++ o ∷ vs) a.1) g)
        (block_print us xs (all_front _ us (o ∷ vs) behind) b) (block_print vs ys (all_back _ us (o ∷ vs) behind).1 d))

    block_print : (ts : List Token) (xs : List Step) → AreWritten text ts → IsBlock text ts xs → BlockPrints (block_of xs)
    block_print _ xs a (block {end = end} {ts = ts} k h l) =
        enclosed (mark sign.Begin) sign.End (IsMark sign.Begin) (mark_proper sign.Begin refl) refl (λ t o i. is_mark t sign.Begin o i)
        (λ o y. y) bare_steps (λ c. c) (λ o y. refl) (λ t o c ts y i k j. block i k j) (bare_steps xs) (block_tokens (block_of xs))
        (steps_print ts xs (all_front _ ts (end ∷ []) a.1) h)

    pub steps_print : (ts : List Token) (xs : List Step) → AreWritten text ts → IsSteps text ts xs → Prints IsSteps bare_steps (bare_steps xs)
        (block_tokens (block_of xs))
    steps_print _ _ a no_steps = record { proper = tt; again = λ other us m. ([], subst (λ v. IsSteps other v []) (sym (ending other us m)) no_steps, refl) }
    steps_print _ _ a (next_step {ts = ts} {us = us} {x = x} {xs = xs} h hs) =
        let one = step_print ts x (all_front _ ts us a) h in
        let rest = steps_print us xs (all_back _ ts us a) hs in
        let first = step_tokens (written_of x) in
        let more = block_tokens (block_of xs) in
        record {
          proper = all_both _ first more one.proper rest.proper;
          again = λ other us m.
              let s = split other us first more m in
              let r = one.again other s.0 s.3 in
              let q = rest.again other s.1 s.4 in (
                r.0 ∷ q.0,
                subst (λ v. IsSteps other v (r.0 ∷ q.0)) (sym s.2) (next_step r.1 q.1),
                ap (λ y. y ▸ bare_steps q.0) r.2 ∙ ap
                    (λ ys. plain_step x ▸ ys) q.2,
              );
        }
