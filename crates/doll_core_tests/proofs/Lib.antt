mod Sites
