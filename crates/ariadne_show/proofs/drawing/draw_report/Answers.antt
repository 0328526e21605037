use Rattle.ariadne_show.proofs.drawing.draw_report.Goals as goal

-- one picture has reached the output
pub returns : goal.returns
returns g c = record {
  left_out = c.in_ok-_left_out._left_out;
  written = (c.in_ok-_left_out.ensures).written;
  hides = (c.in_ok-_left_out.ensures).hides;
}
