-- The loop that reads items one after another and puts each into the client.
use Rattle.std.proofs.Common.{◌≡◌, ℕ, ◌<◌, List, [], ◌∷◌, ◌++◌, length, Option, Some, None, refl, sym, ◌∙◌, ap}
use Rattle.easl_model.specs.declared.place.Place.{Place}
use Rattle.easl_model.specs.declared.token.Token.{Token}
use Rattle.client_model.specs.declared.tree.Client.{Client}
use Rattle.cv_read.specs.Read.{Read, Got, Stuck, Deep, Fails, ◌>>=◌}
use Rattle.cv_read.specs.declared.fault.ReadFault.{ReadFault}
use Rattle.cv_read.specs.declared.fault.ReadFault.TheVariants.{Nesting, Syntax, Memory}
use Rattle.cv_read.proofs.Along.{IsAlong}
use Rattle.cv_read.proofs.Along as along
use Rattle.client_parser.specs.Reading.{with_item, with_items, empty_client, gathered_at}
use Rattle.client_parser.specs.declared.items.Item.{Item}

-- where the loop is: the client has the items that were found
pub record IsGathered (step : List Token → Read (Option Item)) (end : Place) (whole rest : List Token) (client : Client) : Type 0 where
  pub found : List Item
  pub along : IsAlong step whole rest found
  pub gathered : client ≡ with_items (empty_client end) found

one_more : (c : Client) (xs : List Item) (x : Item) → with_items c (xs ++ x ∷ []) ≡ with_item (with_items c xs) x
one_more c [] x = refl
one_more c (y ∷ xs) x = one_more (with_item c y) xs x

pub starts : (step : List Token → Read (Option Item)) (end : Place) (whole : List Token) → IsGathered step end whole whole (empty_client end)
starts step end whole = record { found = []; along = along.starts step whole; gathered = refl }

pub goes_on : (step : List Token → Read (Option Item)) (end : Place) (whole rest more : List Token) (client longer : Client) (x : Item)
    → IsGathered step end whole rest client → step rest ≡ Got (Some x) more → length more < length rest → longer ≡ with_item client x
    → IsGathered step end whole more longer
goes_on step end whole rest more client longer x g is short e = record {
  found = g.found ++ x ∷ [];
  along = along.goes_on step whole rest more g.found (g.found ++ x ∷ []) x g.along is short refl;
  gathered = e ∙ ap (λ c. with_item c x) g.gathered ∙ sym (one_more (empty_client end) g.found x);
}

pub ends : (step : List Token → Read (Option Item)) (end : Place) (whole rest more : List Token) (client : Client) → IsGathered step end whole rest client
    → step rest ≡ Got None more → gathered_at step end whole ≡ Got client more
unfolding gathered_at
ends step end whole rest more client g is =
    ap (λ o. o >>= λ xs us. Got (with_items (empty_client end) xs) us) (along.ends step whole rest more g.found g.along is) ∙ ap (λ c. Got c more) (sym g.gathered)

stops : (step : List Token → Read (Option Item)) (end : Place) (whole rest : List Token) (client : Client) (n : ℕ) → IsGathered step end whole rest client
    → step rest ≡ Stuck n → gathered_at step end whole ≡ Stuck n
unfolding gathered_at
stops step end whole rest client n g is = ap (λ o. o >>= λ xs us. Got (with_items (empty_client end) xs) us) (along.stops step whole rest g.found n g.along is)

deepens : (step : List Token → Read (Option Item)) (end : Place) (whole rest : List Token) (client : Client) → IsGathered step end whole rest client
    → step rest ≡ Deep → gathered_at step end whole ≡ Deep
unfolding gathered_at
deepens step end whole rest client g is = ap (λ o. o >>= λ xs us. Got (with_items (empty_client end) xs) us) (along.deepens step whole rest g.found g.along is)

pub fails : (step : List Token → Read (Option Item)) (end : Place) (whole rest : List Token) (client : Client) (e : ReadFault)
    → IsGathered step end whole rest client → Fails e (step rest) → Fails e (gathered_at step end whole)
fails step end whole rest client (Syntax left) g is = stops step end whole rest client left g is
fails step end whole rest client (Nesting left) g is = deepens step end whole rest client g is
fails step end whole rest client Memory g is = tt
