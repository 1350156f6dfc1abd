-- Each public contract settles its answer and what the lent table holds: two results that both satisfy it are equal.
-- Assumes nothing.
use mathlib.Core.Path.{refl, sym, ◌∙◌}
use Rattle.base.specs.Settles.{Settles}
use Rattle.layout.proofs.kinds.fields_in.Kinds as fields-kinds
use Rattle.layout.proofs.kinds.fields_in.Reads as fields-reads
use Rattle.layout.proofs.kinds.numbers_in.Kinds as numbers-kinds
use Rattle.layout.proofs.kinds.numbers_in.Reads as numbers-reads
use Rattle.layout.proofs.kinds.bytes_in.Kinds as bytes-kinds
use Rattle.layout.proofs.kinds.bytes_in.Reads as bytes-reads
use Rattle.layout.proofs.kinds.kind_of.Kinds as kind-kinds
use Rattle.layout.proofs.kinds.kind_of.Reads as kind-reads
use Rattle.layout.proofs.kinds.longest_table.Kinds as longest-kinds
use Rattle.layout.proofs.kinds.longest_table.Reads as longest-reads
use Rattle.layout.proofs.shapes.shape_at.Kinds as shape-kinds
use Rattle.layout.proofs.shapes.shape_at.Reads as shape-reads
use Rattle.layout.proofs.orders.orders_in.Kinds as orders-kinds
use Rattle.layout.proofs.orders.orders_in.Reads as orders-reads
use Rattle.layout.proofs.orders.order_at.Kinds as order-kinds
use Rattle.layout.proofs.orders.order_at.Reads as order-reads
use Rattle.layout.proofs.rows.read_row.Kinds as row-kinds
use Rattle.layout.proofs.rows.read_row.Reads as row_reads
use Rattle.layout.proofs.rows.put_row.Kinds as put-kinds
use Rattle.layout.proofs.rows.put_row.Reads as put_reads
use Rattle.layout.proofs.rows.converted_row.Kinds as converted-kinds
use Rattle.layout.proofs.rows.converted_row.Reads as converted-reads
use Rattle.layout.proofs.rows.converted_number.Kinds as number-kinds
use Rattle.layout.proofs.rows.converted_number.Reads as number-reads
use Rattle.layout.proofs.rows.fault_of.Kinds as fault-kinds
use Rattle.layout.proofs.rows.fault_of.Reads as fault-reads

pub fields : Settles 0 fields-kinds.ps fields-kinds.r fields-reads.Post
fields κs a x y ws vs p q = (p ∙ sym q, refl)

pub numbers : Settles 0 numbers-kinds.ps numbers-kinds.r numbers-reads.Post
numbers κs a x y ws vs p q = (p ∙ sym q, refl)

pub bytes : Settles 0 bytes-kinds.ps bytes-kinds.r bytes-reads.Post
bytes κs a x y ws vs p q = (p ∙ sym q, refl)

pub kind : Settles 0 kind-kinds.ps kind-kinds.r kind-reads.Post
kind κs a x y ws vs p q = (p ∙ sym q, refl)

pub longest : Settles 0 longest-kinds.ps longest-kinds.r longest-reads.Post
longest κs a x y ws vs p q = (p ∙ sym q, refl)

pub shape : Settles 0 shape-kinds.ps shape-kinds.r shape-reads.Post
shape κs a x y ws vs p q = (p ∙ sym q, refl)

pub orders : Settles 0 orders-kinds.ps orders-kinds.r orders-reads.Post
orders κs a x y ws vs p q = (p ∙ sym q, refl)

pub order : Settles 0 order-kinds.ps order-kinds.r order-reads.Post
order κs a x y ws vs p q = (p ∙ sym q, refl)

pub row : Settles 2 row-kinds.ps row-kinds.r row_reads.Post
row κs a x y ws vs p q = (refl, (λ i. (tt, (tt, (tt, ((p ∙ sym q) i, tt))))))

pub put : Settles 1 put-kinds.ps put-kinds.r put_reads.Post
put κs a x y ws vs p q = (refl, (λ i. ((p ∙ sym q) i, (tt, (tt, (tt, tt))))))

pub converted : Settles 1 converted-kinds.ps converted-kinds.r converted-reads.Post
converted κs a x y ws vs p q = (p ∙ sym q, refl)

pub number : Settles 0 number-kinds.ps number-kinds.r number-reads.Post
number κs a x y ws vs p q = (p ∙ sym q, refl)

pub fault : Settles 1 fault-kinds.ps fault-kinds.r fault-reads.Post
fault κs a x y ws vs p q = (p ∙ sym q, refl)
