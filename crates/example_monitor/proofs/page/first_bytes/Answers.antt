use Rattle.example_monitor.proofs.Pages.{computes_page}
use Rattle.example_monitor.proofs.page.first_bytes.Goals as goal

pub returns : goal.returns
returns c = computes_page
