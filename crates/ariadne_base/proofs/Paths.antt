-- Sources under paths: what look-ups by the text of a path find.
use Rattle.std.proofs.Common.{◌≡◌, ℕ, List, true, false, cond, Some, None, IsSome, is_some, String, string_bytes, Bor, sym, ap}
use Rattle.std.proofs.Common.{◌∙◌}
use Rattle.std.specs.HashMap.{HashMap, Updates}
use Rattle.std.specs.Map.{lookup}
use Rattle.std.specs.Str.{bytes_eq}
use Rattle.std.specs.String.{string_eq}
use Rattle.std.specs.declared.alloc.Global.{Global}
use Rattle.std.proofs.lemmas.Map.Text.{hash_map_updates_text}
use Rattle.ariadne_base.specs.Listing.{Listing}
use Rattle.ariadne_base.specs.Cache.{held}
use Rattle.ariadne_base.specs.Files.{by_path, by_text}
use Rattle.ariadne_base.proofs.Lookups.{lookup-map_keys, none-there, Put}

-- a path is found by its bytes
pub held-by_path : (sources : List (String Global × Listing)) (path : List ℕ)
    → held bytes_eq (by_path sources) path ≡ lookup (λ k. bytes_eq path (string_bytes k)) sources
held-by_path sources path = lookup-map_keys string_bytes (bytes_eq path) sources

-- a lent text finds what its bytes find
pub held-by_text : (sources : List (String Global × Listing)) (path : Bor (List ℕ))
    → held (λ p q. bytes_eq p.now q.now) (by_text sources) path ≡ held bytes_eq (by_path sources) path.now
held-by_text sources path =
    let lent : String Global → Bor (List ℕ) = λ k. record { ref_ptr = (0, 0); now = string_bytes k } in
    lookup-map_keys lent (λ k. bytes_eq path.now k.now) sources ∙ sym (held-by_path sources path.now)

-- a test for a path tells whether it is held
pub IsSome-by_path : (sources : List (String Global × Listing)) (path : List ℕ)
    → true ≡ is_some (lookup (λ k. bytes_eq path (string_bytes k)) sources)
    → IsSome (held bytes_eq (by_path sources) path)
IsSome-by_path sources path told = ap is_some (held-by_path sources path) ∙ sym told

pub IsNone-by_path : (sources : List (String Global × Listing)) (path : List ℕ)
    → false ≡ is_some (lookup (λ k. bytes_eq path (string_bytes k)) sources)
    → held bytes_eq (by_path sources) path ≡ None
IsNone-by_path sources path told =
    none-there _ (told ∙ sym (ap is_some (held-by_path sources path)))

-- the sources of a map after an insertion under a key of that text are the old ones with it put under the path
pub by_path-insert : {S : Type 0} (m n : HashMap (String Global) Listing S) (key : String Global)
    (path : List ℕ) (s : Listing) → string_bytes key ≡ path → Updates string_eq m n key (Some s)
    → Put bytes_eq path s (by_path m.entries) (by_path n.entries)
by_path-insert m n key path s same updates = record {
  at = λ q.
      held-by_path n.entries q
      ∙ hash_map_updates_text (string_bytes key) m n (Some s) updates q
      ∙ ap (λ b. cond (bytes_eq b q) (Some s) (lookup (λ k. bytes_eq q (string_bytes k)) m.entries)) same
      ∙ ap (cond (bytes_eq path q) (Some s)) (sym (held-by_path m.entries q));
}
