use Rattle.std.proofs.Common.{◌≡◌, ◌++◌, ◌∷◌, [], true, ap, arith, cond, not, subst, sym, ◌∙◌}
use Rattle.std.specs.Prelude.{is_ok}
use Rattle.set_names.proofs.Ascending.{ascends_more, end_more}
use Rattle.set_names.proofs.spans.close.Goals as goal
use Rattle.set_names.specs.Sets.{Ascends, end_of}
use Rattle.set_names.specs.declared.spans.Span.{Span}

pub returns-clause-order : goal.returns-clause-order
returns-clause-order c =
    let xs = c.args.ended.now.items in
    let span : Span = record { first = c.args.first; behind = c.args.behind } in
    let ok : is_ok c.push.result ≡ true = c.is_err.ensures.negation ∙ ap not c.if-is_err.false in
    let items : c.push.new.self.items ≡ xs ++ span ∷ [] = c.push.ensures.items ∙ ap (λ b. cond b (xs ++ span ∷ []) xs) ok in
    subst (Ascends 0) (sym items) (ascends_more 0 xs span c.requires.order c.requires.apart (omega arith))

pub returns-clause-end : goal.returns-clause-end
returns-clause-end c =
    let xs = c.args.ended.now.items in
    let span : Span = record { first = c.args.first; behind = c.args.behind } in
    let ok : is_ok c.push.result ≡ true = c.is_err.ensures.negation ∙ ap not c.if-is_err.false in
    let items : c.push.new.self.items ≡ xs ++ span ∷ [] = c.push.ensures.items ∙ ap (λ b. cond b (xs ++ span ∷ []) xs) ok in
    let ends : end_of 0 c.push.new.self.items ≡ c.args.behind = ap (end_of 0) items ∙ end_more 0 xs span in
    omega arith
