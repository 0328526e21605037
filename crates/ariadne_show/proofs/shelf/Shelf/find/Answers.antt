use Rattle.std.proofs.Common.{◌≡◌, ◌∙◌, ◌+◌, ◌++◌, ◌∷◌, [], ap, subst, sym, take}
use Rattle.std.proofs.lemmas.List.{take_all}
use Rattle.std.specs.Prelude.{ℕ, List, string_bytes, drop, suc, Some}
use Rattle.ariadne_search.specs.Search.{candidates, texts_of}
use Rattle.ariadne_show.specs.ReadFiles.{HaveSearched}
use Rattle.ariadne_show.proofs.Reading.{found_now, gone_more, none_found, search_begun}
use Rattle.ariadne_show.proofs.Searching.{map_at, map_next}
use Rattle.ariadne_show.proofs.shelf.Shelf.find.Goals as goal

-- none at first
pub loop-path-init : goal.loop-path-init
loop-path-init g c = search_begun c.args.self.now c.requires

-- one more that can't be read
pub loop-path-preserved : goal.loop-path-preserved
loop-path-preserved g c =
    let i = c.loop-path.path-index in
    let all = c.deref-path-items.result.now in
    gone_more (texts_of (take i all)) (texts_of (take (i + 1) all)) c.as_str-path.result.now c.args.self.now c.loop-path.self
    c.read.new.self
    (map_next string_bytes all i c.path-item.result c.loop-path-test.true c.path-item.is
    ∙ ap (λ t. texts_of (take i all) ++ t ∷ []) (sym c.as_str-path.ensures.value))
    c.loop-path.invariant c.in_ok-read.ensures (sym c.if-is_read.ensures)

-- the first that can be read
pub returns-then-is_read : goal.returns-then-is_read
returns-then-is_read g c =
    let i = c.loop-path.path-index in
    let all = c.deref-path-items.result.now in
    let path = c.as_str-path.result.now in
    let paths = candidates c.args.search.now c.args.name.now in
    let whole : paths ≡ texts_of (take i all) ++ path ∷ texts_of (drop (suc i) all) =
    sym (ap texts_of c.deref-path-items.ensures.value ∙ c.in_ok-paths.ensures)
    ∙ map_at string_bytes all i c.path-item.result c.loop-path-test.true c.path-item.is
    ∙ ap (λ (t : List ℕ). texts_of (take i all) ++ t ∷ texts_of (drop (suc i) all)) (sym c.as_str-path.ensures.value) in
    subst (λ (t : List ℕ). HaveSearched paths (Some t) c.args.self.now c.read.new.self) (sym c.in_ok-from_str.ensures.ok)
    (found_now (texts_of (take i all)) (texts_of (drop (suc i) all)) paths path c.args.self.now c.loop-path.self c.read.new.self whole
    c.loop-path.invariant c.in_ok-read.ensures (sym c.if-is_read.ensures))

-- none can be read
pub returns : goal.returns
returns g c =
    none_found (candidates c.args.search.now c.args.name.now) (texts_of (take c.loop-path.path-index c.deref-path-items.result.now))
    c.args.self.now c.loop-path.self
    (sym (ap texts_of (take_all c.loop-path.path-index c.deref-path-items.result.now c.loop-path-test.false)
    ∙ ap texts_of c.deref-path-items.ensures.value ∙ c.in_ok-paths.ensures))
    c.loop-path.invariant
