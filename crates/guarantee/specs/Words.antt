-- Words against builds: what memory shows of a build, where calls lead it.
pub mod Shows
pub mod Goes
