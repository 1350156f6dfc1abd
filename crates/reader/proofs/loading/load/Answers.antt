-- `reader::loading::load` meets its contract: each section's records fit in its list, and stand there before zeros.
-- Assumes nothing.
use mathlib.Core.Path.{ap, ◌∙◌}
use native.Mathlib.Omega.{arith}
use Rattle.layout.proofs.LayoutLaws.{listed_is}
use Rattle.table.specs.Lists.{list_for}
use Rattle.sheet.specs.declared.Sheet.{Sheet}
use Rattle.sheet.specs.Sheet.{count_for, blank, sheet_of}
use Rattle.reader.proofs.FillLaws.{count_put, few_counts, section_put, header_put}
use Rattle.reader.proofs.loading.load.Goals as goal

pub slice_bounds-fill_section-end : goal.slice_bounds-fill_section-end
slice_bounds-fill_section-end c = omega (arith, few_counts _ c.requires.0 _ c.counts-counts.ensures)

pub overflow_mul-counts-2 : goal.overflow_mul-counts-2
overflow_mul-counts-2 c = omega (arith, few_counts _ c.requires.0 _ c.counts-counts.ensures)

pub slice_bounds-fill_section-end-3 : goal.slice_bounds-fill_section-end-3
slice_bounds-fill_section-end-3 c = omega (arith, few_counts _ c.requires.0 _ c.counts-counts.ensures)

pub overflow_mul-counts-3 : goal.overflow_mul-counts-3
overflow_mul-counts-3 c = omega (arith, few_counts _ c.requires.0 _ c.counts-counts.ensures)

pub slice_bounds-fill_section-end-5 : goal.slice_bounds-fill_section-end-5
slice_bounds-fill_section-end-5 c = omega (arith, few_counts _ c.requires.0 _ c.counts-counts.ensures)

pub overflow_mul-counts-4 : goal.overflow_mul-counts-4
overflow_mul-counts-4 c = omega (arith, few_counts _ c.requires.0 _ c.counts-counts.ensures)

pub slice_bounds-fill_section-end-7 : goal.slice_bounds-fill_section-end-7
slice_bounds-fill_section-end-7 c = omega (arith, few_counts _ c.requires.0 _ c.counts-counts.ensures)

pub overflow_mul-counts-5 : goal.overflow_mul-counts-5
overflow_mul-counts-5 c = omega (arith, few_counts _ c.requires.0 _ c.counts-counts.ensures)

pub slice_bounds-fill_section-end-9 : goal.slice_bounds-fill_section-end-9
slice_bounds-fill_section-end-9 c = omega (arith, few_counts _ c.requires.0 _ c.counts-counts.ensures)

pub returns : goal.returns
unfolding sheet_of blank list_for count_for
returns c =
    let bytes = c.args.table.now in
    let own = c.requires.0 in
    let counted = c.counts-counts.ensures in
    let zeros = c.requires.1 in
    λ i. record {
      header = (c.header_list-sheet.ensures ∙ header_put bytes) i;
      counts = record {
        systems = count_put bytes own _ counted 0 (omega arith) i;
        vls = count_put bytes own _ counted 1 (omega arith) i;
        streams = count_put bytes own _ counted 2 (omega arith) i;
        ports = count_put bytes own _ counted 3 (omega arith) i;
        hops = count_put bytes own _ counted 4 (omega arith) i;
      };
      systems = section_put bytes own _ counted 0 (omega arith) 1 (listed_is 1) _ (ap (λ (s : Sheet). s.systems) zeros) _ c.fill_section.ensures i;
      vls = section_put bytes own _ counted 1 (omega arith) 4 (listed_is 2) _ (ap (λ (s : Sheet). s.vls) zeros) _ c.fill_section-2.ensures i;
      streams = section_put bytes own _ counted 2 (omega arith) 7 (listed_is 3) _ (ap (λ (s : Sheet). s.streams) zeros) _ c.fill_section-3.ensures i;
      ports = section_put bytes own _ counted 3 (omega arith) 3 (listed_is 4) _ (ap (λ (s : Sheet). s.ports) zeros) _ c.fill_section-4.ensures i;
      hops = section_put bytes own _ counted 4 (omega arith) 3 (listed_is 5) _ (ap (λ (s : Sheet). s.hops) zeros) _ c.fill_section-5.ensures i;
    }
