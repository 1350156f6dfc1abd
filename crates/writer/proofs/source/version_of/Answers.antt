-- `writer::source::version_of` meets its contract: the version is the first number of the header's list.
-- Assumes nothing.
use Rattle.std.proofs.Common.{sym, ap, ◌∙◌, get_or}
use Rattle.layout.proofs.SizeLaws.{list_places}
use Rattle.writer.proofs.source.version_of.Goals as goal

pub returns : goal.returns
returns c = c.header_number.ensures ∙ ap (λ k. get_or c.args.lists.header.now k 0) (sym list_places.version)
