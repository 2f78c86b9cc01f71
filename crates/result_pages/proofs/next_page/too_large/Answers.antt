use Rattle.result_pages.proofs.next_page.too_large.Goals as goal

pub returns : goal.returns
returns c = rw (c.in_ok-push_ascii.ensures.ok, c.in_ok-push_size.ensures, c.in_ok-message.ensures) at c.for_internal_error.ensures
