-- Which numbers append and object build can have beside those of reading: append 7, object build 7 and 8. 9 is `within`'s.
use Rattle.layout.specs.Tree.{Tree, null, boolean, number, string, extension, array, object, Items, none, item}
use Rattle.layout.specs.declared.refusal.Refusal.{Refusal}
use Rattle.layout.specs.declared.refusal.Refusal.TheVariants.{Kind, Repeated}
use Rattle.layout.proofs.Refusals.{RefusedBy, by_bind, by_require}
use Rattle.builders.specs.Build.{items_of, text_of, texts_of, append, build}

module _ (P : Refusal → Type 0) (kind : P Kind) where
  items_by : (t : Tree) → RefusedBy P (items_of t)
  items_by null = kind
  items_by (boolean x) = kind
  items_by (number b) = kind
  items_by (string b) = kind
  items_by (extension b) = kind
  items_by (array ts) = tt
  items_by (object ms) = kind

  text_by : (t : Tree) → RefusedBy P (text_of t)
  text_by null = kind
  text_by (boolean x) = kind
  text_by (number b) = kind
  text_by (string b) = tt
  text_by (extension b) = kind
  text_by (array ts) = kind
  text_by (object ms) = kind

  texts_by : (ts : Items) → RefusedBy P (texts_of ts)
  texts_by none = tt
  texts_by (item t ts) = by_bind P (text_of t) _ (text_by t) λ n. by_bind P (texts_of ts) _ (texts_by ts) λ ns. tt

  pub append_by : (t u : Tree) → RefusedBy P (append t u)
  unfolding append
  append_by t u = by_bind P (items_of t) _ (items_by t) λ ts. tt

  pub build_by : P Repeated → (t u : Tree) → RefusedBy P (build t u)
  unfolding build
  build_by repeated t u =
      by_bind P (items_of t) _ (items_by t) λ ts. by_bind P (items_of u) _ (items_by u) λ us.
      by_bind P (texts_of ts) _ (texts_by ts) λ ns. by_require P _ Kind _ kind (by_require P _ Repeated _ repeated tt)
