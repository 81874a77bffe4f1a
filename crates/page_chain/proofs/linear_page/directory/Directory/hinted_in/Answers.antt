use Rattle.std.proofs.Common.{◌∙◌, rules}
use Rattle.std.proofs.lemmas.Option.{slice_get_read}
use Rattle.page_chain.proofs.linear_page.directory.Directory.hinted_in.Goals as goal

pub returns : goal.returns
returns g c = record {
  row_number = c.args.row_number;
  row = c.index-cell.result.now;
  is_row = search (rules, slice_get_read);
  of_row = c.get_as.ensures.cell ∙ c.note-row.ensures.0;
  offset = search rules;
  in_row = search rules;
}
