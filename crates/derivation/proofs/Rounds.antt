-- Questions that are asked in order, as families are met.
use Rattle.std.proofs.Common.{◌≡◌, ℕ, zero, suc, ◌+◌, ◌<◌, ◌≤◌, List, [], ◌∷◌, ◌++◌, All, Some, Result, Ok, get_or, length, slice_get, slice_index_or, take, refl, ap, sym, subst, ◌∙◌, arith, append_assoc, append-nil}
use Rattle.std.specs.List.{AllZip}
use Rattle.std.proofs.lemmas.List.{take_more}
use Rattle.std.proofs.lemmas.Option.{get_or_from_slice_get, slice_get-get_or, slice_get_within}
use Rattle.easl_model.specs.Form.{Form}
use Rattle.easl_model.specs.declared.form.Method.{Method}
use Rattle.access_paths.specs.declared.term.Family.{Family}
use Rattle.method_abstraction.specs.{clause_questions, questions, update_questions, updates_by, updates_from}
use Rattle.method_abstraction.specs.declared.entry.ClauseFacts.{ClauseFacts}
use Rattle.method_abstraction.specs.declared.entry.Disjunct.{Disjunct}
use Rattle.method_abstraction.specs.declared.entry.Question.{Question}
use Rattle.method_abstraction.specs.declared.entry.Question.TheVariants.{Clause, Update}
use Rattle.method_abstraction.specs.declared.entry.Update as entry
use Rattle.derivation.specs.Closing.{Asked, next, Comes, IsClauseReply, IsEntry, IsUpdateReply}
use Rattle.derivation.specs.Rounds.{AreNext, IsAnswered, IsQuestion, IsSoFar, clause_entry, clauses_in, update_entry, updates_in}
use Rattle.derivation.specs.declared.reply.Reply.{Reply}
use Rattle.derivation.specs.declared.reply.AskFault.{AskFault}
use Rattle.derivation.specs.Replies.{UpdateReplies}
use Rattle.derivation.proofs.Replying.{stands}
use Rattle.derivation.proofs.Meeting.{all_numbered_front, front_get, meets_front, zip_one_more}

pub take_front : {X : Type 0} (xs more : List X) (n : ℕ) → n ≤ length xs → take n (xs ++ more) ≡ take n xs
take_front [] more zero within = refl
take_front [] more (suc n) within = absurd (omega (arith, within))
take_front (x ∷ xs) more zero within = refl
take_front (x ∷ xs) more (suc n) within = ap (λ l. x ∷ l) (take_front xs more n (omega (arith, within)))

-- the questions on more families stand behind
pub updates_append : (form : Form) (n : ℕ) (xs ys : List Family)
    → updates_from form n (xs ++ ys) ≡ updates_from form n xs ++ updates_from form (n + length xs) ys
updates_append form n [] ys = let e : n + 0 ≡ n = omega arith in ap (λ k. updates_from form k ys) (sym e)
updates_append form n (x ∷ xs) ys =
    let e : suc n + length xs ≡ n + length (x ∷ xs) = omega arith in
    ap (λ l. updates_by n x 0 form.methods ++ l) (updates_append form (suc n) xs ys ∙ ap (λ k. updates_from form (suc n) xs ++ updates_from form k ys) e)
    ∙ sym (append_assoc (updates_by n x 0 form.methods) (updates_from form (suc n) xs) (updates_from form (n + length (x ∷ xs)) ys))

pub questions_append : (form : Form) (xs ys : List Family) → questions form (xs ++ ys) ≡ questions form xs ++ updates_from form (length xs) ys
questions_append form xs ys =
    let e : 0 + length xs ≡ length xs = omega arith in
    ap (λ l. clause_questions form ++ l) (updates_append form 0 xs ys ∙ ap (λ k. update_questions form xs ++ updates_from form k ys) e)
    ∙ sym (append_assoc (clause_questions form) (update_questions form xs) (updates_from form (length xs) ys))

pub still_asked : (form : Form) (known more : List Family) (n : ℕ) (q : Question) → slice_get (questions form known) n ≡ Some q
    → slice_get (questions form (known ++ more)) n ≡ Some q
still_asked form known more n q at =
    ap (λ l. slice_get l n) (questions_append form known more) ∙ front_get (questions form known) (updates_from form (length known) more) n q at

-- what a question comes to stays so
comes_front : (form : Form) (known more : List Family) (q : Question) (r : Result Reply AskFault) → Comes form known q r → Comes form (known ++ more) q r
comes_front form known more (Clause method clause) r comes = comes
comes_front form known more (Update method results number) r comes =
    (comes.0, comes.1, comes.2, front_get known more number comes.1 comes.3, comes.4)

entry_front : (form : Form) (known more : List Family) (q : Question) (ds : List Disjunct) → IsEntry form known q ds → IsEntry form (known ++ more) q ds
entry_front form known more q ds is =
    (is.0, comes_front form known more q (Ok is.0) is.1, all_numbered_front known more is.0.disjuncts ds is.2)

pub zip_so : {X Y : Type 0} (P Q : X → Y → Type 0) → ((x : X) (y : Y) → P x y → Q x y) → (xs : List X) (ys : List Y) → AllZip P xs ys → AllZip Q xs ys
zip_so P Q so [] [] all = tt
zip_so P Q so [] (y ∷ ys) all = absurd all
zip_so P Q so (x ∷ xs) [] all = absurd all
zip_so P Q so (x ∷ xs) (y ∷ ys) all = (so x y all.0, zip_so P Q so xs ys all.1)

clause_entries_front : (form : Form) (known more : List Family) (qs : List Question) (es : List ClauseFacts) → AllZip (IsClauseReply form known) qs es
    → AllZip (IsClauseReply form (known ++ more)) qs es
clause_entries_front form known more =
    zip_so (IsClauseReply form known) (IsClauseReply form (known ++ more)) (λ q e is. (is.0, entry_front form known more q e.disjuncts is.1))

update_entries_front : (form : Form) (known more : List Family) (qs : List Question) (es : List entry.Update) → AllZip (IsUpdateReply form known) qs es
    → AllZip (IsUpdateReply form (known ++ more)) qs es
update_entries_front form known more =
    zip_so (IsUpdateReply form known) (IsUpdateReply form (known ++ more)) (λ q e is. (is.0, entry_front form known more q e.disjuncts is.1))

-- questions of one kind
pub clauses_in-append : (xs ys : List Question) → clauses_in (xs ++ ys) ≡ clauses_in xs ++ clauses_in ys
clauses_in-append [] ys = refl
clauses_in-append (Clause m k ∷ xs) ys = ap (λ l. Clause m k ∷ l) (clauses_in-append xs ys)
clauses_in-append (Update m r f ∷ xs) ys = clauses_in-append xs ys

pub updates_in-append : (xs ys : List Question) → updates_in (xs ++ ys) ≡ updates_in xs ++ updates_in ys
updates_in-append [] ys = refl
updates_in-append (Clause m k ∷ xs) ys = updates_in-append xs ys
updates_in-append (Update m r f ∷ xs) ys = ap (λ l. Update m r f ∷ l) (updates_in-append xs ys)

-- one entry more
module _ (form : Form) (families : List Family) where
  put_clause : (qs : List Question) (q : Question) (es : List ClauseFacts) (ds : List Disjunct) → AllZip (IsClauseReply form families) (clauses_in qs) es
      → IsEntry form families q ds → AllZip (IsClauseReply form families) (clauses_in (qs ++ q ∷ [])) (es ++ clause_entry q ds)
  put_clause qs (Clause m k) es ds all is =
      subst (λ l. AllZip (IsClauseReply form families) l (es ++ clause_entry (Clause m k) ds)) (sym (clauses_in-append qs (Clause m k ∷ [])))
      (zip_one_more (IsClauseReply form families) (clauses_in qs) es (Clause m k) (record { method = m; clause = k; disjuncts = ds }) all (refl, is))
  put_clause qs (Update m r f) es ds all is =
      subst (λ l. AllZip (IsClauseReply form families) l (es ++ [])) (sym (clauses_in-append qs (Update m r f ∷ []) ∙ append-nil (clauses_in qs)))
      (subst (AllZip (IsClauseReply form families) (clauses_in qs)) (sym (append-nil es)) all)

  put_update : (qs : List Question) (q : Question) (es : List entry.Update) (ds : List Disjunct) → AllZip (IsUpdateReply form families) (updates_in qs) es
      → IsEntry form families q ds → AllZip (IsUpdateReply form families) (updates_in (qs ++ q ∷ [])) (es ++ update_entry q ds)
  put_update qs (Clause m k) es ds all is =
      subst (λ l. AllZip (IsUpdateReply form families) l (es ++ [])) (sym (updates_in-append qs (Clause m k ∷ []) ∙ append-nil (updates_in qs)))
      (subst (AllZip (IsUpdateReply form families) (updates_in qs)) (sym (append-nil es)) all)
  put_update qs (Update m r f) es ds all is =
      subst (λ l. AllZip (IsUpdateReply form families) l (es ++ update_entry (Update m r f) ds)) (sym (updates_in-append qs (Update m r f ∷ [])))
      (zip_one_more (IsUpdateReply form families) (updates_in qs) es (Update m r f) (record { method = m; results = r; family = f; disjuncts = ds }) all
      (refl, is))

-- one question more
module _ (form : Form) (n : ℕ) (known : List Family) (clauses : List ClauseFacts) (updates : List entry.Update) (so_far : IsSoFar form n known clauses updates)
    (q : Question) (at : slice_get (questions form known) n ≡ Some q) where
  pub asked_next : (after : List Family) (ds : List Disjunct) → IsAnswered form known q after ds
      → IsSoFar form (n + 1) after (clauses ++ clause_entry q ds) (updates ++ update_entry q ds)
  asked_next after ds is =
      let front = meets_front known is.0.disjuncts after is.2 in
      let more = front.0 in
      let there : Comes form (known ++ more) q (Ok is.0) = comes_front form known more q (Ok is.0) is.1 in
      let entry_is : IsEntry form after q ds = (is.0, subst (λ l. Comes form l q (Ok is.0)) (sym front.1) there, is.4) in
      let within : n < length (questions form known) = slice_get_within (questions form known) n q at in
      let taken : take n (questions form after) ≡ take n (questions form known) =
      ap (λ l. take n (questions form l)) front.1 ∙ ap (take n) (questions_append form known more)
      ∙ take_front (questions form known) (updates_from form (length known) more) n (omega (arith, within)) in
      let at_after : slice_get (questions form after) n ≡ Some q =
      ap (λ l. slice_get (questions form l) n) front.1 ∙ still_asked form known more n q at in
      let next_taken : take n (questions form known) ++ q ∷ [] ≡ take (n + 1) (questions form after) =
      ap (λ l. l ++ q ∷ []) (sym taken)
      ∙ ap (λ x. take n (questions form after) ++ x ∷ []) (sym (get_or_from_slice_get (questions form after) n q q at_after))
      ∙ sym (take_more (questions form after) n q (slice_get_within (questions form after) n q at_after)) in
      let one : suc n ≡ n + 1 = omega arith in
      record {
        asked = subst (λ k. Asked form k after) one (next n known after q is.0 so_far.asked at is.1 is.2 is.3);
        clause_entries = subst (λ l. AllZip (IsClauseReply form after) (clauses_in l) (clauses ++ clause_entry q ds)) next_taken
            (put_clause form after (take n (questions form known)) q clauses ds
            (subst (λ l. AllZip (IsClauseReply form l) (clauses_in (take n (questions form known))) clauses) (sym front.1)
            (clause_entries_front form known more (clauses_in (take n (questions form known))) clauses so_far.clause_entries)) entry_is);
        update_entries = subst (λ l. AllZip (IsUpdateReply form after) (updates_in l) (updates ++ update_entry q ds)) next_taken
            (put_update form after (take n (questions form known)) q updates ds
            (subst (λ l. AllZip (IsUpdateReply form l) (updates_in (take n (questions form known))) updates) (sym front.1)
            (update_entries_front form known more (updates_in (take n (questions form known))) updates so_far.update_entries)) entry_is);
      }

-- what the asked family's question comes to
pub update_comes : (form : Form) (families : List Family) (method results number : ℕ) (family : Family) (r : Result Reply AskFault)
    → IsQuestion form families (Update method results number) → family ≡ slice_index_or families number family
    → ((m : Method) → slice_get form.methods method ≡ Some m → UpdateReplies form m family results r) → Comes form families (Update method results number) r
update_comes form families method results number family r is at comes =
    let called = stands form.methods method is.0 in
    let here : slice_get families number ≡ Some family =
    slice_get-get_or families number family (slice_get_within families number is.1.0 is.1.1) ∙ ap Some (sym at) in
    (called.0, family, called.1, here, comes called.0 called.1)

-- a question that is next stays one
pub question_front : (form : Form) (known more : List Family) (q : Question) → IsQuestion form known q → IsQuestion form (known ++ more) q
question_front form known more (Clause method clause) is = is
question_front form known more (Update method results number) is =
    (is.0, (is.1.0, front_get known more number is.1.0 is.1.1, is.1.2, is.1.3))

-- families that are met later stand behind
pub longer_more : (first known after : List Family) → ((more : List Family) × (known ≡ first ++ more)) → ((more : List Family) × (after ≡ known ++ more))
    → (more : List Family) × (after ≡ first ++ more)
longer_more first known after a b = (a.0 ++ b.0, b.1 ∙ ap (λ l. l ++ b.0) a.1 ∙ append_assoc first a.0 b.0)

-- the question at a place of those that are next
pub next_at : (form : Form) (first known : List Family) (n : ℕ) (qs : List Question) (k : ℕ) (q : Question) → ((more : List Family) × (known ≡ first ++ more))
    → AreNext form first n qs → k < length qs → slice_get (questions form known) (n + k) ≡ Some (get_or qs k q)
next_at form first known n qs k q longer are within =
    subst (λ l. slice_get (questions form l) (n + k) ≡ Some (get_or qs k q)) (sym longer.1)
    (still_asked form first longer.0 (n + k) (get_or qs k q) (are k (get_or qs k q) (slice_get-get_or qs k q within)))

pub question_at : (form : Form) (first known : List Family) (qs : List Question) (k : ℕ) (q : Question) → ((more : List Family) × (known ≡ first ++ more))
    → All (IsQuestion form first) qs → k < length qs → IsQuestion form known (get_or qs k q)
question_at form first known qs k q longer all within =
    subst (λ l. IsQuestion form l (get_or qs k q)) (sym longer.1) (question_front form first longer.0 (get_or qs k q) (all k q within))

pub one_asked : (form : Form) (n k : ℕ) (families : List Family) (clauses : List ClauseFacts) (updates : List entry.Update)
    → IsSoFar form (n + k + 1) families clauses updates → IsSoFar form (n + (k + 1)) families clauses updates
one_asked form n k families clauses updates so_far =
    let e : n + k + 1 ≡ n + (k + 1) = omega arith in
    subst (λ m. IsSoFar form m families clauses updates) e so_far
