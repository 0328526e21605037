use Rattle.std.proofs.Common.{◌≡◌, ◌∙◌, Option, ap, subst, sym}
use Rattle.std.specs.Prelude.{option_map}
use Rattle.std.proofs.lemmas.Bool.{true≢false}
use Rattle.ariadne_blocks.specs.Blocks.{path_of, IsRow}
use Rattle.ariadne_blocks.specs.Files.{file_of, File}
use Rattle.ariadne_show.specs.Finding.{file_at}
use Rattle.ariadne_show.proofs.known.take_row_of.Goals as goal

-- it was taken in over the file that is held
pub returns-clause-row : goal.returns-clause-row
returns-clause-row g c =
    let file : option_map file_of c.quoted_file-file.result ≡ file_at c.args.finder.now.shelf (path_of c.args.block.now) =
    c.quoted_file-file.ensures ∙ ap (file_at c.args.finder.now.shelf) c.path.ensures in record {
      goes_on = λ over. true≢false (sym c.if-not-branch.false ∙ c.in_ok-take_row.ensures.over over);
      row = c.take_row.new.self;
      taken = subst (λ (f : Option File). IsRow f c.args.line c.args.block.now c.take_row.new.self) file
          (c.in_ok-take_row.ensures.row c.if-not-branch.false);
      named = c.in_ok-quote_named.ensures.quoted;
    }
