use Rattle.std.proofs.Common.{◌≡◌, ◌++◌, sym, subst, OnOk}
use Rattle.qapi_types.specs.declared.kind.Kind.{Kind}
use Rattle.qapi_mask.specs.{Entries.entry_of, Naming.mask_of, Printing.entry_members}
use Rattle.qapi_types.specs.Prelude.{empty_of}
use Rattle.qapi_mask.proofs.objects.put_parts.Goals as goal

pub returns-in-Str : goal.returns-in-Str
returns-in-Str c =
    subst (λ (k : Kind). OnOk c.put_text.result (c.put_text.new.members ≡ c.args.members.now ++ entry_members (entry_of c.args.naming.now.kinds (mask_of c.args.naming.now) (empty_of c.args.naming.now) k))) (sym c.in-Str.is) c.put_text.ensures

pub returns-in-Whole : goal.returns-in-Whole
returns-in-Whole c =
    subst (λ (k : Kind). OnOk c.put_text-in-Whole.result (c.put_text-in-Whole.new.members ≡ c.args.members.now ++ entry_members (entry_of c.args.naming.now.kinds (mask_of c.args.naming.now) (empty_of c.args.naming.now) k))) (sym c.in-Whole.is) c.put_text-in-Whole.ensures

pub returns-in-Null : goal.returns-in-Null
returns-in-Null c =
    subst (λ (k : Kind). OnOk c.put_text-in-Null.result (c.put_text-in-Null.new.members ≡ c.args.members.now ++ entry_members (entry_of c.args.naming.now.kinds (mask_of c.args.naming.now) (empty_of c.args.naming.now) k))) (sym c.in-Null.is) c.put_text-in-Null.ensures
