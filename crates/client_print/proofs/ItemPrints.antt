-- Statics, procedures and clients that are printed and read again are the same, places aside.
use Rattle.std.proofs.Common.{◌≡◌, ℕ, Bool, true, false, List, [], ◌∷◌, ◌++◌, drop, map, refl, sym, ap, ◌∙◌, subst}
use Rattle.std.specs.List.{AllByRecursion}
use Rattle.client_model.specs.Grammar.{IsStatic, static, IsProc, procedure, IsItems, no_items, next_static, next_procedure, IsClient, client}
use Rattle.client_model.specs.Statements.{Statements}
use Rattle.client_model.specs.declared.tree.Client.{Client}
use Rattle.client_model.specs.declared.tree.Proc.{Proc}
use Rattle.client_model.specs.declared.tree.Rhs.{Rhs}
use Rattle.client_model.specs.declared.tree.Static.{Static}
use Rattle.easl_model.specs.Lexemes.{word_of}
use Rattle.easl_model.specs.declared.place.Place.{Place}
use Rattle.easl_model.specs.declared.token.Key.TheVariants as keyword
use Rattle.easl_model.specs.declared.token.Mark.TheVariants as sign
use Rattle.easl_model.specs.declared.token.Token.{Token}
use Rattle.easl_model.specs.declared.tree.Param.{Param}
use Rattle.easl_model.specs.declared.tree.Sort.{Sort}
use Rattle.easl_model.specs.declared.tree.Word.{Word}
use Rattle.cv_layout.specs.Layout.{Lexeme, key, mark}
use Rattle.cv_layout.specs.Tokens.{IsProper, AreOf}
use Rattle.cv_layout.specs.Words.{named, nowhere, bare_word}
use Rattle.cv_layout.proofs.Printed.{AreWritten, Prints}
use Rattle.cv_layout.proofs.Single.{is_mark, is_key, is_name, mark_proper, key_proper, name_proper, same_word}
use Rattle.cv_layout.proofs.Splits.{all_front, all_back, all_both, split, headed, ending}
use Rattle.easl_print.proofs.BodyPrints.{brace}
use Rattle.easl_print.specs.Bare.{bare_sort, bare_param}
use Rattle.easl_print.specs.Lines.{sort, params}
use Rattle.client_print.specs.Bare.{bare_value, bare_block, bare_static, bare_procedure, bare_client}
use Rattle.client_print.specs.Bare as plain
use Rattle.client_print.specs.Lines.{block_of}
use Rattle.client_print.specs.Lines as lines
use Rattle.client_print.proofs.StatementPrints.{block_tokens, statements_print}
use Rattle.easl_print.proofs.TypePrints.{type_print, result_print, params_print}
use Rattle.client_print.proofs.ValuePrints.{initial_print}

-- the tokens of items
abbrev pub static_tokens : Static → List Lexeme
static_tokens x = key keyword.Static ∷ sort x.sort ∷ named x.name ∷ lines.set x.value

abbrev pub procedure_tokens : Proc → List Lexeme
procedure_tokens p = sort p.result ∷ named p.name ∷ (params p.params ++ brace (block_tokens (block_of p.body)))

abbrev pub first_static : List Static → List Lexeme
first_static [] = []
first_static (x ∷ xs) = static_tokens x

abbrev pub first_procedure : List Proc → List Lexeme
first_procedure [] = []
first_procedure (x ∷ xs) = procedure_tokens x

abbrev pub item_tokens : List Bool → List Static → List Proc → List Lexeme
item_tokens [] xs ys = []
item_tokens (true ∷ order) xs ys = first_static xs ++ item_tokens order (drop 1 xs) ys
item_tokens (false ∷ order) xs ys = first_procedure ys ++ item_tokens order xs (drop 1 ys)

-- places aside
abbrev static_of : Sort → Word → Rhs → Static
static_of s n v = record { place = nowhere; sort = s; name = n; value = v }

abbrev procedure_of : Sort → Word → List Param → Statements → plain.Procedure
procedure_of r n ps xs = record { result = r; name = n; params = ps; body = xs }

module _ (text : List ℕ) where
  static_print : (ts : List Token) (x : Static) → AreWritten text ts → IsStatic text ts x → Prints IsStatic bare_static (bare_static x) (static_tokens x)
  static_print _ _ a (static {name = name} {assign = assign} {semicolon = semicolon} {n = n} {ts = ts} {us = us} {s = s} {x = v} k i j o h l) =
      let tail = name ∷ assign ∷ (us ++ semicolon ∷ []) in
      let b = all_back _ ts tail a.1 in
      let f = type_print text ts s (all_front _ ts tail a.1) i in
      let g = initial_print text us v (all_front _ us (semicolon ∷ []) b.1.1) h in
      let last = mark sign.Semicolon ∷ [] in
      record {
        proper = (
          key_proper keyword.Static refl,
          (
            f.proper.0,
            (
              name_proper text name n b.0 j,
              (
                mark_proper sign.Assign refl,
                all_both _ (lines.value v) last g.proper
                    (mark_proper sign.Semicolon refl, tt),
              ),
            ),
          ),
        );
        again = λ other ws m.
            let x = headed other ws (key keyword.Static) (sort s ∷ named n ∷ lines.set v) m in
            let t = headed other x.1 (sort s) (named n ∷ lines.set v) x.4 in
            let y = headed other t.1 (named n) (lines.set v) t.4 in
            let q = headed other y.1 (mark sign.Assign) (lines.value v ++ last) y.4 in
            let c = split other q.1 (lines.value v) last q.4 in
            let e = headed other c.1 (mark sign.Semicolon) [] c.4 in
            let r = f.again other (t.0 ∷ []) (t.3, tt) in
            let d = g.again other c.0 c.3 in
            let w = word_of other y.0 in
            let made : Static = record { place = x.0.place; sort = r.0; name = w; value = d.0 } in
            let all : ws ≡ x.0 ∷ ((t.0 ∷ []) ++ (y.0 ∷ (q.0 ∷ (c.0 ++ e.0 ∷ [])))) =
            x.2 ∙ ap (λ u. x.0 ∷ u) (t.2 ∙ ap (λ u. t.0 ∷ u) (y.2 ∙ ap (λ u. y.0 ∷ u) (q.2 ∙ ap (λ u. q.0 ∷ u) (c.2 ∙ ap (λ u. c.0 ++ u) (e.2
            ∙ ap (λ u. e.0 ∷ u) (ending other e.1 e.4)))))) in (
              made,
              subst (λ u. IsStatic other u made) (sym all) (static (is_key other keyword.Static x.0 x.3) r.1 (is_name text other name y.0 n b.0 j y.3)
                  (is_mark other sign.Assign q.0 q.3) d.1 (is_mark other sign.Semicolon e.0 e.3)),
              ap (λ u. static_of u (bare_word w) (bare_value d.0)) r.2 ∙ ap (λ u. static_of (bare_sort s) u (bare_value d.0)) (same_word w n y.3.written)
                  ∙ ap (static_of (bare_sort s) (bare_word n)) d.2,
            );
      }

  procedure_print : (ts : List Token) (x : Proc) → AreWritten text ts → IsProc text ts x → Prints IsProc bare_procedure (bare_procedure x) (procedure_tokens x)
  procedure_print _ _ a
      (procedure {result = result} {name = name} {begin = begin} {end = end} {n = n} {ts = ts} {us = us} {r = res} {ps = ps} {xs = xs} k i p b h e) =
      let tail = begin ∷ (us ++ end ∷ []) in
      let fr = result_print text (result ∷ []) res (a.0, tt) k in
      let fp = params_print text ts ps (all_front _ ts tail a.1.1) p in
      let fs = statements_print text us xs (all_front _ us (end ∷ []) (all_back _ ts tail a.1.1).1) h in
      let inner = block_tokens (block_of xs) in
      let close = mark sign.End ∷ [] in
      record {
        proper = (
          fr.proper.0,
          (
            name_proper text name n a.1.0 i,
            all_both _ (params ps) (brace inner) fp.proper
                (mark_proper sign.Begin refl, all_both _ inner close fs.proper (mark_proper sign.End refl, tt)),
          ),
        );
        again = λ other ws m.
            let d = headed other ws (sort res) (named n ∷ (params ps ++ brace inner)) m in
            let y = headed other d.1 (named n) (params ps ++ brace inner) d.4 in
            let s = split other y.1 (params ps) (brace inner) y.4 in
            let o = headed other s.1 (mark sign.Begin) (inner ++ close) s.4 in
            let t = split other o.1 inner close o.4 in
            let z = headed other t.1 (mark sign.End) [] t.4 in
            let rr = fr.again other (d.0 ∷ []) (d.3, tt) in
            let rp = fp.again other s.0 s.3 in
            let rs = fs.again other t.0 t.3 in
            let v = word_of other y.0 in
            let made : Proc = record { place = d.0.place; result = rr.0; name = v; params = rp.0; body = rs.0; end = z.0.place } in
            let behind : o.1 ≡ t.0 ++ z.0 ∷ [] = t.2 ∙ ap (λ u. t.0 ++ u) (z.2 ∙ ap (λ u. z.0 ∷ u) (ending other z.1 z.4)) in
            let all : ws ≡ d.0 ∷ (y.0 ∷ (s.0 ++ (o.0 ∷ (t.0 ++ z.0 ∷ [])))) =
            d.2 ∙ ap (λ u. d.0 ∷ u) (y.2 ∙ ap (λ u. y.0 ∷ u) (s.2 ∙ ap (λ u. s.0 ++ u) (o.2 ∙ ap (λ u. o.0 ∷ u) behind))) in (
              made,
              subst (λ u. IsProc other u made) (sym all) (procedure rr.1 (is_name text other name y.0 n a.1.0 i y.3) rp.1
                  (is_mark other sign.Begin o.0 o.3) rs.1 (is_mark other sign.End z.0 z.3)),
              ap (λ u. procedure_of u (bare_word v) (map bare_param rp.0) (bare_block rs.0)) rr.2
                  ∙ ap (λ u. procedure_of (bare_sort res) u (map bare_param rp.0) (bare_block rs.0)) (same_word v n y.3.written)
                  ∙ ap (λ u. procedure_of (bare_sort res) (bare_word n) u (bare_block rs.0)) rp.2
                  ∙ ap (procedure_of (bare_sort res) (bare_word n) (map bare_param ps)) rs.2,
            );
      }

  -- the tokens of items spell them again, in the same order
  record ItemsPrint (xs : List Static) (ys : List Proc) (order : List Bool) : Type 0 where
    pub proper : AllByRecursion IsProper (item_tokens order xs ys)
    pub again : (other : List ℕ) (us : List Token) → AreOf other us (item_tokens order xs ys)
        → (vs : List Static) × (ws : List Proc) × IsItems other us vs ws order × (map bare_static vs ≡ map bare_static xs) ×
        (map bare_procedure ws ≡ map bare_procedure ys)

  items_print : (ts : List Token) (xs : List Static) (ys : List Proc) (order : List Bool) → AreWritten text ts → IsItems text ts xs ys order
      → ItemsPrint xs ys order
  items_print _ _ _ _ a no_items =
      record { proper = tt; again = λ other us m. ([], [], subst (λ u. IsItems other u [] [] []) (sym (ending other us m)) no_items, refl, refl) }
  items_print _ _ _ _ a (next_static {ts = ts} {us = us} {x = x} {xs = xs} {ys = ys} {order = order} h more) =
      let one = static_print ts x (all_front _ ts us a) h in
      let rest = items_print us xs ys order (all_back _ ts us a) more in
      let first = static_tokens x in
      let others = item_tokens order xs ys in
      record {
        proper = all_both _ first others one.proper rest.proper;
        again = λ other ws m.
            let s = split other ws first others m in
            let r = one.again other s.0 s.3 in
            let q = rest.again other s.1 s.4 in (
              r.0 ∷ q.0,
              q.1,
              subst (λ u. IsItems other u (r.0 ∷ q.0) q.1 (true ∷ order)) (sym s.2) (next_static r.1 q.2),
              ap (λ y. y ∷ map bare_static q.0) r.2 ∙ ap (λ l. bare_static x ∷ l) q.3,
              q.4,
            );
      }
  items_print _ _ _ _ a (next_procedure {ts = ts} {us = us} {y = y} {xs = xs} {ys = ys} {order = order} h more) =
      let one = procedure_print ts y (all_front _ ts us a) h in
      let rest = items_print us xs ys order (all_back _ ts us a) more in
      let first = procedure_tokens y in
      let others = item_tokens order xs ys in
      record {
        proper = all_both _ first others one.proper rest.proper;
        again = λ other ws m.
            let s = split other ws first others m in
            let r = one.again other s.0 s.3 in
            let q = rest.again other s.1 s.4 in (
              q.0,
              r.0 ∷ q.1,
              subst (λ u. IsItems other u q.0 (r.0 ∷ q.1) (false ∷ order)) (sym s.2) (next_procedure r.1 q.2),
              q.3,
              ap (λ z. z ∷ map bare_procedure q.1) r.2 ∙ ap (λ l. bare_procedure y ∷ l) q.4,
            );
      }

  -- the tokens of a client spell it where the text ends anywhere
  pub client_proper : (end : Place) (ts : List Token) (x : Client) → AreWritten text ts → IsClient text end ts x → AllByRecursion IsProper
      (item_tokens x.order x.statics x.procedures)
  client_proper end ts _ a (client {xs = xs} {ys = ys} {order = order} h) = (items_print ts xs ys order a h).proper

  pub client_again : (end : Place) (ts : List Token) (x : Client) → AreWritten text ts → IsClient text end ts x
      → (other : List ℕ) (last : Place) (us : List Token)
      → AreOf other us (item_tokens x.order x.statics x.procedures) → (y : Client) × IsClient other last us y × (bare_client y ≡ bare_client x)
  client_again end ts _ a (client {xs = xs} {ys = ys} {order = order} h) other last us m =
      let r = (items_print ts xs ys order a h).again other us m in
      let made : Client = record { statics = r.0; procedures = r.1; order = order; end = last } in
      (made, client r.2, λ i. record { statics = r.3 i; procedures = r.4 i; order = order })
